-- The rows of the filter, in the order in which they were made.
use Rattle.std.specs.Prelude.{ℕ, ◌==◌, ◌&&◌, Bool, true, not, bit_and, bit_or, List, [], ◌∷◌, ◌++◌, map, find, if◌then◌else◌}
use Rattle.std.specs.Int.{w8, bit_not}
use Rattle.std.specs.List.{list_any}
use Rattle.std.specs.Option.{option_map_or}
use Rattle.filter_rules.specs.Rule.{same_key, answers}
use Rattle.filter_rules.specs.declared.rule.RuleKey.{RuleKey}
use Rattle.filter_rules.specs.declared.rule.RuleRow.{RuleRow}
use Rattle.filter_rules.specs.declared.rule_table.RowValue.{RowValue}

-- the rows of a table
abbrev pub rows_of : List (RuleKey × RowValue) → List RuleRow
rows_of rows = map (λ row. record { key = row.0; flags = row.1.flags; number = row.1.number }) rows

abbrev pub has_key : RuleKey → RuleRow → Bool
has_key key row = same_key row.key key

-- some row has the key
abbrev pub has_row : List RuleRow → RuleKey → Bool
has_row rows key = list_any (has_key key) rows

-- no two rows have the same key
abbrev pub have_different_keys : List RuleRow → Bool
have_different_keys [] = true
have_different_keys (row ∷ rows) = not (has_row rows row.key) && have_different_keys rows

-- some row with the key has one of these flags
abbrev pub has_rule : List RuleRow → RuleKey → ℕ → Bool
has_rule rows key flags = list_any (answers key flags) rows

-- the list with the first item that passes edited; where none passes, a new item stands last
abbrev pub edit_or_push : {X : Type 0} → (X → Bool) → (X → X) → X → List X → List X
edit_or_push passes edit new [] = new ∷ []
edit_or_push passes edit new (x ∷ xs) = if passes x then edit x ∷ xs else x ∷ edit_or_push passes edit new xs

-- the row with the key has these flags too; where no row has the key, a new one with this number stands last
abbrev pub set_rule : List RuleRow → RuleKey → ℕ → ℕ → List RuleRow
set_rule rows key flags number =
    edit_or_push (has_key key) (λ row. record row { flags = bit_or row.flags flags })
    (record { key = key; flags = flags; number = number }) rows

-- the number of the row with the key, or this one where no row has it
abbrev pub number_of : List RuleRow → RuleKey → ℕ → ℕ
number_of rows key number = option_map_or (λ row. row.number) (find (has_key key) rows) number

-- the list with these items in place of the first one that passes
abbrev pub replace_first : {X : Type 0} → (X → Bool) → (X → List X) → List X → List X
replace_first passes items [] = []
replace_first passes items (x ∷ xs) = if passes x then items x ++ xs else x ∷ replace_first passes items xs

-- the row without these flags; a row that has no flag left is gone
abbrev pub without_flags : ℕ → RuleRow → List RuleRow
without_flags flags row =
    if bit_and row.flags (bit_not w8 flags) == 0 then []
    else record row { flags = bit_and row.flags (bit_not w8 flags) } ∷ []

-- the row with the key that has some of these flags loses them
abbrev pub clear_rule : List RuleRow → RuleKey → ℕ → List RuleRow
clear_rule rows key flags = replace_first (answers key flags) (without_flags flags) rows
