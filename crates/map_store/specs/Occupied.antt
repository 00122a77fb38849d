-- Which slots are taken, and the tree that finds the least one that isn't.
use Rattle.std.specs.Prelude.{◌≡◌, ◌≤◌, ◌<◌, ℕ, ◌+◌, ◌*◌, Bool, false, min, List, length, slice_index, slice_index_or, if◌then◌else◌}

unfoldable pub is_taken : List Bool → ℕ → Bool
is_taken taken place = slice_index_or taken place false

-- what stands at a slot's node: its place, or the number of slots where it is taken
abbrev pub slot_number : ℕ → List Bool → ℕ → ℕ
slot_number slots taken place = if is_taken taken place then slots else place

-- the slots' nodes stand behind as many others
abbrev pub AreNumbers : ℕ → List Bool → List ℕ → Type 0
AreNumbers slots taken least = (place : ℕ) → place < slots → slice_index least (slots + place) ≡ slot_number slots taken place

unfoldable pub lesser_child : List ℕ → ℕ → ℕ
lesser_child least node = min (slice_index least (2 * node)) (slice_index least (2 * node + 1))

abbrev pub IsLesser : List ℕ → ℕ → Type 0
IsLesser least node = slice_index least node ≡ lesser_child least node

-- each node in front of those of the slots is the lesser of its children, but perhaps one
abbrev pub AreLesserBut : ℕ → ℕ → List ℕ → Type 0
AreLesserBut other slots least = (node : ℕ) → 1 ≤ node → node < slots → (node ≡ other → ⊥) → IsLesser least node

pub record IsTree (slots : ℕ) (taken : List Bool) (least : List ℕ) : Type 0 where
  pub some : 0 < slots
  pub few : slots ≤ 1048576
  pub count : length taken ≡ slots
  pub size : length least ≡ slots * 2
  pub numbers : AreNumbers slots taken least
  pub nodes : AreLesserBut 0 slots least
