use Rattle.std.proofs.Common.{arith}
use Rattle.pcapng_text.specs.ReadBack.{ReadsAsInterface}
use Rattle.pcapng_text.proofs.Framing.{printed_alone}
use Rattle.pcapng_text.proofs.ReadBack.{interface-read_back}
use Rattle.pcapng_text.proofs.writing.interface.Goals as goal

pub returns-clause-read_back : goal.returns-clause-read_back
returns-clause-read_back c =
    printed_alone (ReadsAsInterface c.args.snap) c.in_ok-interface_print.ensures c.new-bytes.ensures (interface-read_back c.args.name.now c.args.snap c.requires (omega arith))
