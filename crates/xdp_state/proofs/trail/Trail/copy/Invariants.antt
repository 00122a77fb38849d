use Rattle.std.proofs.Common.{◌≡◌, take}
use Rattle.xdp_state.specs.Trails.{visits_in}
use Rattle.xdp_state.proofs.trail.Trail.copy.Given as goal

abbrev pub invariant-loop-place : goal.invariant-loop-place
invariant-loop-place l = l.visits ≡ take l.place (visits_in l.self)
