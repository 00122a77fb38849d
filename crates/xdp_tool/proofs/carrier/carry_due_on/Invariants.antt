use Rattle.std.proofs.Common.{◌≡◌, ◌-◌, List, length, take}
use Rattle.xdp_state.specs.Book.{after}
use Rattle.xdp_state.specs.Standing.{Standing}
use Rattle.xdp_state.specs.declared.change.Change.{Change}
use Rattle.xdp_tool.specs.Carrying.{IsUpTo}
use Rattle.xdp_tool.proofs.carrier.carry_due_on.Given as goal

abbrev pub invariant-loop-place : goal.invariant-loop-place
invariant-loop-place l = record {
  up : (published : List Change) (standing : Standing) → l.state ≡ after (take l.state.count published)
      → IsUpTo l.library published standing l.hand_ins l.counts l.state.count l.initial.processor
      → IsUpTo l.library published standing l.hand_ins l.counts l.state.count l.processor;
  place : l.place ≡ length l.processor.carried;
}

abbrev pub decreases-loop-place : goal.decreases-loop-place
decreases-loop-place l = length l.hand_ins - l.place
