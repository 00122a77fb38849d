-- The changes that a log of drafts and commits stands for.
use Rattle.std.specs.Prelude.{List, [], ◌∷◌, ◌++◌, Option, Some, None, true}
use Rattle.logbook.specs.Pages.{Book, Named}
use Rattle.xdp_state.specs.declared.change.Change.{Change}
use Rattle.dispatch_plane.specs.declared.entry.Entry.{Entry}
use Rattle.dispatch_plane.specs.declared.entry.Entry.TheVariants.{Draft, Commit}

-- the draft, where there is one, and then these changes
abbrev pub begun : Option Change → List Change → List Change
begun None changes = changes
begun (Some change) changes = change ∷ changes

-- A draft takes the place of the draft before it. A commit makes it.
unfoldable pub committed_from : Option Change → List Entry → List Change
committed_from draft [] = []
committed_from draft (Draft change ∷ log) = committed_from (Some change) log
committed_from draft (Commit ∷ log) = begun draft (committed_from None log)

abbrev pub committed : List Entry → List Change
committed log = committed_from None log

-- what a copy shows that was made for the last draft: that one too, since a copy is shown only once it is committed
abbrev pub shown : List Entry → List Change
shown log = committed (log ++ Commit ∷ [])

-- the history's one word
abbrev pub head_of : Book → Named
head_of book = record { tracked = true; key = 0; book = book }
