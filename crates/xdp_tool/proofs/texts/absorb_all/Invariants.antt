use Rattle.std.proofs.Common.{◌≡◌, take}
use Rattle.std.specs.List.{fold}
use Rattle.xdp_state.specs.Book.{applied}
use Rattle.xdp_tool.proofs.texts.absorb_all.Given as goal

abbrev pub invariant-loop-change : goal.invariant-loop-change
invariant-loop-change l = l.state ≡ fold applied l.initial.state (take l.change-index l.changes)
