use Rattle.std.proofs.Common.{◌≡◌, ◌+◌, ◌++◌, List, length, take}
use Rattle.xdp_state.specs.Book.{AllTaken, after}
use Rattle.xdp_state.specs.Standing.{Standing}
use Rattle.xdp_state.specs.declared.change.Change.{Change}
use Rattle.xdp_tool.specs.Carrying.{AllUpTo, AreDue, StandsAt}
use Rattle.xdp_tool.proofs.carrier.Carrier.carry.Given as goal

abbrev pub invariant-loop-change : goal.invariant-loop-change
invariant-loop-change l =
    (before : List Change) (standings : List Standing) → StandsAt l.fn.self before standings → AllTaken (before ++ l.changes)
    → AreDue (length before) (length (before ++ l.changes)) standings l.hand_ins l.counts → record {
      state : l.self.state ≡ after (before ++ take l.change-index l.changes);
      up : AllUpTo l.library 0 (before ++ l.changes) (length before + l.change-index + 1) standings l.hand_ins l.counts l.self.processors.items;
    }
