use Rattle.xdp_state.specs.Library.{IsSound}
use Rattle.packet_tests.proofs.programs.library.Given as goal

abbrev pub invariant-loop-bytes : goal.invariant-loop-bytes
invariant-loop-bytes l = IsSound l.library
