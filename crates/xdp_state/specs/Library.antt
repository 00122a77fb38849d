-- The programs of a run, by number: objects in order, and the programs of one object in order.
use Rattle.std.specs.Prelude.{ℕ, ◌+◌, ◌<◌, ◌^◌, ◌&&◌, Bool, not, nat_eq, List, [], ◌∷◌, codes, count_by, length, map, take, All, Option, slice_get, if◌then◌else◌}
use Rattle.std.specs.Cmp.Lexicographic.{pointwise, slice_cmp}
use Rattle.std.specs.List.{flat_map, list_any}
use Rattle.std.specs.Ordering.{is_lt, nat_cmp}
use Rattle.object_load.specs.declared.program.Program.{Program}
use Rattle.object_load.specs.Load.{IsRunnable}
use Rattle.xdp_state.specs.declared.library.Library.{Library}
use Rattle.xdp_state.specs.declared.library.Loaded.{Loaded}
use Rattle.xdp_state.specs.declared.library.Loaded.TheVariants.{Programs, Refused}
use Rattle.xdp_state.specs.declared.library.ObjectRow.{ObjectRow}

-- a refused object has none
abbrev pub programs_in : Loaded → List Program
programs_in (Programs programs) = programs
programs_in (Refused refusal) = []

abbrev pub programs_of : List ObjectRow → List Program
programs_of objects = flat_map (λ object. programs_in object.loaded) objects

abbrev pub program_at : Library → ℕ → Option Program
program_at library number = slice_get (programs_of library.objects) number

-- the number of the program at a place of an object
abbrev pub number_of : Library → ℕ → ℕ → ℕ
number_of library object place = length (programs_of (take object library.objects)) + place

-- there are fewer than 2^32 programs, and each can be run with its maps
pub record IsSound (library : Library) : Type 0 where
  pub count : length (programs_of library.objects) < 2 ^ 32
  pub runnable : All IsRunnable (programs_of library.objects)

abbrev pub filter_name : List ℕ
filter_name = codes "xdp_filter"

abbrev pub names_of : List Program → List (List ℕ)
names_of programs = map (λ program. program.name) programs

-- the names of all programs and of the filter
abbrev pub all_names : Library → List (List ℕ)
all_names library = filter_name ∷ names_of (programs_of library.objects)

abbrev pub is_among : List ℕ → List (List ℕ) → Bool
is_among name names = list_any (pointwise nat_eq name) names

-- each of them once
abbrev pub different : List (List ℕ) → List (List ℕ)
different [] = []
different (name ∷ names) = if is_among name names then different names else name ∷ different names

-- before the other in the order of bytes
abbrev pub is_less : List ℕ → List ℕ → Bool
is_less name other = is_lt (slice_cmp nat_cmp name other)

-- one of these programs, and one of these objects', has the name
abbrev pub is_named : List ℕ → List Program → Bool
is_named name programs = list_any (λ program. pointwise nat_eq name program.name) programs

abbrev pub is_named_in : List ℕ → List ObjectRow → Bool
is_named_in name objects = list_any (λ object. is_named name (programs_in object.loaded)) objects

-- another name is less, and neither these programs nor these objects' have it
abbrev pub is_last_less : List ℕ → List Program → List ObjectRow → List ℕ → Bool
is_last_less other programs objects name = is_less other name && (not (is_named other programs) && not (is_named_in other objects))

-- how many different names are less
unfoldable pub lesser : List (List ℕ) → List ℕ → ℕ
lesser names name = count_by (λ other. is_less other name) (different names)

-- the place of a name among all names in the order of bytes; equal names have one place
abbrev pub rank : Library → List ℕ → ℕ
rank library name = lesser (all_names library) name
