use Rattle.std.proofs.Common.{arith}
use Rattle.pcapng_text.specs.ReadBack.{ReadsAsPacket}
use Rattle.pcapng_text.proofs.Framing.{printed_alone}
use Rattle.pcapng_text.proofs.ReadBack.{packet-read_back}
use Rattle.pcapng_text.proofs.writing.packet.Goals as goal

pub returns-clause-read_back : goal.returns-clause-read_back
returns-clause-read_back c =
    printed_alone (ReadsAsPacket c.args.number c.args.timestamp c.args.kept.now) c.in_ok-enhanced_packet_print.ensures.prints c.new-bytes.ensures
    (packet-read_back c.args.number c.args.timestamp c.args.original c.args.kept.now c.args.options.now (omega arith) (omega arith) c.in_ok-enhanced_packet_print.ensures.number)
