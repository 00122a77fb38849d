-- A table of rules: its rows under their keys, in the order in which they were made.
use Rattle.std.specs.Prelude.{ℕ, ◌==◌, Bool, false, bit_and, bit_or, List, [], ◌∷◌, ◌++◌, position, Option, is_some, if◌then◌else◌}
use Rattle.std.specs.Int.{w8, bit_not}
use Rattle.std.specs.Map.{keys_of, lookup, remove_entry, set_value}
use Rattle.std.specs.Option.{option_map_or}
use Rattle.filter_rules.specs.Rule.{has_one_of}
use Rattle.filter_rules.specs.declared.rule_table.RowValue.{RowValue}

-- the rows, and how many there may be
pub record Table (K : Type 0) : Type 0 where
  pub rows : List (K × RowValue)
  pub room : ℕ

abbrev pub new_value : ℕ → ℕ → RowValue
new_value flags number = record { flags = flags; number = number }

-- these flags beside those that are there
abbrev pub more_flags : ℕ → RowValue → RowValue
more_flags flags value = record value { flags = bit_or value.flags flags }

-- those that are there without these
abbrev pub fewer_flags : ℕ → RowValue → RowValue
fewer_flags flags value = record value { flags = bit_and value.flags (bit_not w8 flags) }

module _ {K : Type 0} (eq : K → K → Bool) where
  -- the place of the row with the key
  abbrev pub place_of : List (K × RowValue) → K → Option ℕ
  place_of rows key = position (eq key) (keys_of rows)

  -- some row has the key
  abbrev pub is_there : List (K × RowValue) → K → Bool
  is_there rows key = is_some (lookup (eq key) rows)

  -- the row with the key has one of these flags
  abbrev pub has_flag : List (K × RowValue) → K → ℕ → Bool
  has_flag rows key flags = option_map_or (λ value. has_one_of value.flags flags) (lookup (eq key) rows) false

  -- the number of the row with the key, or this one where no row has it
  abbrev pub number_at : List (K × RowValue) → K → ℕ → ℕ
  number_at rows key number = option_map_or (λ value. value.number) (lookup (eq key) rows) number

  -- the row with the key has these flags too; where no row has the key, a new one with this number stands last
  abbrev pub set_row : List (K × RowValue) → K → ℕ → ℕ → List (K × RowValue)
  set_row rows key flags number =
      option_map_or (λ value. set_value (eq key) rows (more_flags flags value)) (lookup (eq key) rows)
      (rows ++ (key, new_value flags number) ∷ [])

  -- the rows once the one with the key has the flags that are left; without a flag it is gone, and the others keep their order
  abbrev pub keep_flags : List (K × RowValue) → K → RowValue → List (K × RowValue)
  keep_flags rows key left = if left.flags == 0 then remove_entry (eq key) rows else set_value (eq key) rows left

  -- the row with the key loses these flags
  abbrev pub clear_row : List (K × RowValue) → K → ℕ → List (K × RowValue)
  clear_row rows key flags =
      option_map_or (λ value. keep_flags rows key (fewer_flags flags value)) (lookup (eq key) rows) rows
