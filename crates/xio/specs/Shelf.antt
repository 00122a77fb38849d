-- The files of a form in memory, by name: the first of a name is the file.
use Rattle.std.specs.Prelude.{ℕ, nat_eq, ◌&&◌, Bool, true, false, List, [], find, Option, None}
use Rattle.std.specs.Option.{option_map_or}
use Rattle.std.specs.Cmp.Lexicographic.{pointwise}
use Rattle.xio.specs.Room.{fits}
use Rattle.xio.specs.declared.memory.stored_file.StoredFile.{StoredFile}

-- what decides where a call on a name fails
pub record Setup : Type 0 where
  -- whether a file has the name
  pub there : Bool
  -- how many bytes it has room for
  pub room : ℕ
  -- the place at which a read of it fails
  pub bad_place : Option ℕ

abbrev pub no_setup : Setup
no_setup = record { there = false; room = 0; bad_place = None }

-- whether a file with this content takes a piece
abbrev pub takes : Setup → List ℕ → List ℕ → Bool
takes setup content piece = setup.there && fits setup.room content piece

abbrev pub has_name : List ℕ → StoredFile → Bool
has_name name file = pointwise nat_eq name file.name

abbrev pub file_named : List StoredFile → List ℕ → Option StoredFile
file_named files name = find (has_name name) files

-- a part of the named file, or what a name without a file has
abbrev pub part_of : {V : Type 0} → (StoredFile → V) → V → List StoredFile → List ℕ → V
part_of part none files name = option_map_or part (file_named files name) none

abbrev pub setup_of : StoredFile → Setup
setup_of file = record { there = true; room = file.room.size; bad_place = file.bad_place }

abbrev pub setups_of : List StoredFile → List ℕ → Setup
setups_of = part_of setup_of no_setup

abbrev pub content_of : List StoredFile → List ℕ → List ℕ
content_of = part_of (λ file. file.room.bytes) []

abbrev pub flushed_of : List StoredFile → List ℕ → ℕ
flushed_of = part_of (λ file. file.flushed) 0
