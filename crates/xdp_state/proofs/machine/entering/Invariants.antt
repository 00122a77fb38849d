use Rattle.std.proofs.Common.{◌≡◌, take}
use Rattle.xdp_state.specs.Stores.{entering}
use Rattle.xdp_state.proofs.machine.entering.Given as goal

abbrev pub invariant-loop-place : goal.invariant-loop-place
invariant-loop-place l = l.made.items ≡ entering l.library (take l.place l.chain) l.stores
