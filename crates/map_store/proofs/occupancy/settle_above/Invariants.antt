use Rattle.std.proofs.Common.{◌≡◌, ◌<◌, ◌≤◌, ℕ, get_or}
use Rattle.map_store.specs.Occupied.{AreLesserBut}
use Rattle.map_store.proofs.occupancy.settle_above.Given as goal

-- the node that is next is the only one that may be wrong
abbrev pub invariant-loop-node : goal.invariant-loop-node
invariant-loop-node l = record {
  within : l.node < l.slots;
  numbers : (node : ℕ) → l.slots ≤ node → get_or l.least node 0 ≡ get_or l.initial.least node 0;
  nodes : AreLesserBut l.node l.slots l.least;
}

abbrev pub decreases-loop-node : goal.decreases-loop-node
decreases-loop-node l = l.node
