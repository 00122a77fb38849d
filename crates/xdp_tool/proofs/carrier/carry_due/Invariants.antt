use Rattle.std.proofs.Common.{◌≡◌, List, take, vec_len}
use Rattle.xdp_state.specs.Book.{after}
use Rattle.xdp_state.specs.Standing.{Standing}
use Rattle.xdp_state.specs.declared.change.Change.{Change}
use Rattle.xdp_tool.specs.Carrying.{AllUpTo}
use Rattle.xdp_tool.proofs.carrier.carry_due.Given as goal

abbrev pub invariant-loop-place : goal.invariant-loop-place
invariant-loop-place l = record {
  up : (published : List Change) (standings : List Standing) → l.state ≡ after (take l.state.count published)
      → AllUpTo l.library 0 published l.state.count standings l.hand_ins l.counts l.initial.processors.items
      → AllUpTo l.library l.place published l.state.count standings l.hand_ins l.counts l.processors.items;
  processors : vec_len l.processors ≡ vec_len l.initial.processors;
}
