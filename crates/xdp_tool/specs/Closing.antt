-- A phase that has ended, of which the texts are still to be written.
use Rattle.std.specs.Prelude.{◌≡◌, List, ◌++◌, length, map}
use Rattle.xdp_state.specs.Book.{AllTaken, after}
use Rattle.xdp_state.specs.Sums.{Past, sums_of}
use Rattle.xdp_state.specs.declared.carried.Carried.{Carried}
use Rattle.xdp_state.specs.declared.change.Change.{Change}
use Rattle.xdp_tool.specs.Plan.{Phase}
use Rattle.xdp_tool.specs.QueueView.{queue_of}
use Rattle.xdp_tool.specs.Queues.{queues_of}
use Rattle.xdp_tool.specs.Walked.{AreRising}
use Rattle.xdp_tool.specs.declared.closed.Closed.{Closed}
use Rattle.xdp_tool.specs.declared.shown.Shown.{Shown}

-- The rules are those after these publications. The sums are those of what was carried before a phase, and of what was carried
-- in it.
pub record Shows (shown : Shown) (published : List Change) (past : Past) (carried : List (List Carried)) : Type 0 where
  pub rules : shown.book ≡ after published
  pub sums : shown.sums ≡ sums_of past carried
  pub queues : map queue_of shown.queues ≡ queues_of shown.library.now.interfaces
  pub processors : length past.by_processor ≡ length (queues_of shown.library.now.interfaces)

-- these are the items and changes of the phase, behind the publications before it, and what was carried in it
pub record IsClosed (closed : Closed) (begun : List Change) (phase : Phase) (carried : List (List Carried)) : Type 0 where
  pub barrier : closed.barrier ≡ phase.barrier
  pub items : closed.items.items ≡ phase.items
  pub published : begun ++ closed.changes.items ≡ phase.work.published
  pub taken : AllTaken phase.work.published
  pub rising : AreRising (length begun) phase.items (length phase.work.published)
  pub lists : closed.carried ≡ carried

-- the texts are those of some phase
pub record IsReady (shown : Shown) (closed : Closed) : Type 0 where
  pub begun : List Change
  pub phase : Phase
  pub past : Past
  pub carried : List (List Carried)
  pub shows : Shows shown begun past carried
  pub is : IsClosed closed begun phase carried
