use Rattle.std.proofs.Common.{◌≡◌, length, take}
use Rattle.xdp_state.specs.Library.{programs_of}
use Rattle.xdp_state.proofs.library.count_of.Given as goal

abbrev pub invariant-loop-object : goal.invariant-loop-object
invariant-loop-object l = l.count ≡ length (programs_of (take l.object-index l.object-items))
