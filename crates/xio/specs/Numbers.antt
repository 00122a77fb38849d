-- The numbers that a form in memory gave, and the calls of `open_file`: each has its row, from 0 on.
use Rattle.std.specs.Prelude.{◌≡◌, ℕ, ◌<◌, List, [], length, map, slice_get}
use Rattle.std.specs.Option.{option_map_or}
use Rattle.xio.specs.Handles.{Handle}
use Rattle.xio.specs.Handles as handle
use Rattle.xio.specs.declared.memory.ask.Ask.{Ask}
use Rattle.xio.specs.declared.memory.entry.Entry.{Entry}
use Rattle.xio.specs.declared.memory.entry.Standing.{Standing}
use Rattle.xio.specs.declared.memory.entry.Standing.TheVariants.{Closed, Opened, Made}

-- a part of the row at a place, or what a place without a row has
abbrev pub part_at : {A V : Type 0} → (A → V) → V → List A → ℕ → V
part_at part none rows n = option_map_or part (slice_get rows n) none

abbrev pub handle_of : Standing → Handle
handle_of Closed = handle.Closed
handle_of Opened = handle.Opened
handle_of Made = handle.Made

abbrev pub handle_at : List Entry → ℕ → Handle
handle_at = part_at (λ entry. handle_of entry.standing) handle.Closed

abbrev pub name_at : List Entry → ℕ → List ℕ
name_at = part_at (λ entry. entry.name) []

abbrev pub call_at : List Entry → ℕ → ℕ
call_at = part_at (λ entry. entry.call) 0

abbrev pub names_asked : List Ask → List (List ℕ)
names_asked = map (λ ask. ask.name)

abbrev pub place_at : List Ask → ℕ → ℕ
place_at = part_at (λ ask. ask.place) 0

-- an opened number has its call
abbrev pub CallsAsked : List Entry → List Ask → Type 0
CallsAsked entries asks = (n : ℕ) → handle_at entries n ≡ handle.Opened → call_at entries n < length asks
