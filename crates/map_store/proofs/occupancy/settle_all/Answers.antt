use Rattle.std.proofs.Common.{◌≡◌, ◌-◌, ◌*◌, length, ◌∙◌, arith}
use Rattle.map_store.specs.Occupied.{lesser_child}
use Rattle.map_store.proofs.Trees.{number_kept, settled_from}
use Rattle.map_store.proofs.occupancy.settle_all.Goals as goal

pub loop-node-preserved : goal.loop-node-preserved
loop-node-preserved c =
    let size : length c.loop-node.least ≡ c.args.slots * 2 = omega arith in
    record {
      numbers = λ node from. rw c.settle.ensures (number_kept c.loop-node.least (c.loop-node.node - 1) (lesser_child c.loop-node.least (c.loop-node.node - 1)) node (omega arith) ∙ c.loop-node.invariant.numbers node from);
      nodes = rw c.settle.ensures (settled_from c.args.slots c.loop-node.least (c.loop-node.node - 1) size (omega arith) (omega arith) (λ node from below. c.loop-node.invariant.nodes node (omega arith) below));
    }
