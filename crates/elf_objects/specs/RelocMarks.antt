-- Marks of blocks of a file: of the relocations that begin in a block and leave one remainder by 16, none lacks its symbol.
use Rattle.std.specs.Prelude.{◌≡◌, ℕ, ◌+◌, ◌-◌, ◌*◌, ◌/◌, ◌%◌, ◌≤◌, Bool, true, false, ◌&&◌, nat_lt, List, length, get_or}
use Rattle.elf_objects.specs.Reloc.{lacks_symbol}

-- the mark of the block and the remainder of a place
unfoldable pub mark_of : ℕ → ℕ
mark_of place = place / 65536 * 16 + place % 16

unfoldable pub has_mark : List Bool → ℕ → Bool
has_mark marks place = nat_lt (mark_of place) (length marks) && get_or marks (mark_of place) false

-- how many relocations, one after another from a place on, begin in its block
unfoldable pub left_in_block : ℕ → ℕ
left_in_block place = (65536 - place % 65536 + 15) / 16

-- where a place has a mark, the relocation there has its symbol
pub record AreClean (file : List ℕ) (marks : List Bool) : Type 0 where
  pub each : (place : ℕ) → place + 16 ≤ length file → has_mark marks place ≡ true → lacks_symbol file place ≡ false
