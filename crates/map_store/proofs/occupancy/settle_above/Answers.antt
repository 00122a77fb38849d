use Rattle.std.proofs.Common.{◌≡◌, ◌*◌, length, ◌∙◌, arith}
use Rattle.map_store.specs.Occupied.{lesser_child}
use Rattle.map_store.proofs.Trees.{number_kept, settled}
use Rattle.map_store.proofs.occupancy.settle_above.Goals as goal

pub loop-node-preserved : goal.loop-node-preserved
loop-node-preserved c =
    let size : length c.loop-node.least ≡ c.args.slots * 2 = omega arith in
    record {
      within = omega arith;
      numbers = λ node from. rw c.settle.ensures (number_kept c.loop-node.least c.loop-node.node (lesser_child c.loop-node.least c.loop-node.node) node (omega arith) ∙ c.loop-node.invariant.numbers node from);
      nodes = rw c.settle.ensures (settled c.args.slots c.loop-node.least c.loop-node.node size (omega arith) (omega arith) c.loop-node.invariant.nodes);
    }
