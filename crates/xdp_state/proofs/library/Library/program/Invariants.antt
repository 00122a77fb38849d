use Rattle.std.proofs.Common.{◌≡◌, drop, slice_get}
use Rattle.xdp_state.specs.Library.{program_at, programs_of}
use Rattle.xdp_state.proofs.library.Library.program.Given as goal

abbrev pub invariant-loop-object : goal.invariant-loop-object
invariant-loop-object l = program_at l.self l.number ≡ slice_get (programs_of (drop l.object-index l.object-items)) l.place
