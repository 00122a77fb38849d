use Rattle.std.proofs.Common.{◌≡◌, ◌<◌, ◌≤◌, ℕ, get_or}
use Rattle.map_store.specs.Occupied.{IsLesser}
use Rattle.map_store.proofs.occupancy.settle_all.Given as goal

-- the nodes from this one on are right
abbrev pub invariant-loop-node : goal.invariant-loop-node
invariant-loop-node l = record {
  numbers : (node : ℕ) → l.slots ≤ node → get_or l.least node 0 ≡ get_or l.initial.least node 0;
  nodes : (node : ℕ) → l.node ≤ node → node < l.slots → IsLesser l.least node;
}
