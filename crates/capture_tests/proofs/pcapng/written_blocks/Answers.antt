use Rattle.std.proofs.Common.{arith}
use Rattle.pcapng_text.proofs.ReadBack.{packet-fits}
use Rattle.capture_tests.proofs.pcapng.written_blocks.Goals as goal

pub packet-requires : goal.packet-requires
packet-requires g c = packet-fits _ _ (omega arith) (omega arith)

pub packet-requires-2 : goal.packet-requires-2
packet-requires-2 g c = packet-fits _ _ (omega arith) (omega arith)
