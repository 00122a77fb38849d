use Rattle.pcapng_text.specs.Parts.{joined}
use Rattle.pcapng_text.proofs.Framing.{framed-interface, length-interface, printed_same}
use Rattle.pcapng_text.proofs.writing.interface_print.Goals as goal

pub block_print-requires-clause-size : goal.block_print-requires-clause-size
block_print-requires-clause-size g c = length-interface (joined c.args.name.now) c.args.snap c.requires

pub returns : goal.returns
returns g c = printed_same c.block_print.ensures (framed-interface (joined c.args.name.now) c.args.snap)
