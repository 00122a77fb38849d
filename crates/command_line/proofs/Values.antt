-- The values that the rows give.
use Rattle.std.proofs.Common.{◌≡◌, Bool, cond, true, false, List, [], ◌∷◌, Option, Some, codes, slice_get, refl, sym, true≢false}
use Rattle.std.specs.List.{list_all}
use Rattle.std.specs.Prelude.{option_and_then}
use Rattle.std.specs.Str.{bytes_eq}
use Rattle.std.proofs.lemmas.Bool.{and_parts}
use Rattle.clap.specs.Walk.{Row, first_of}
use Rattle.command_line.specs.Given.{Given, is_known, option, positional, positional_of, refused, value_of}
use Rattle.command_line.specs.Words.{Text}
use Rattle.command_line.proofs.Rows.{row_with, rows_for}
use Rattle.command_line.proofs.Rules.{option_apart}

abbrev value_in : Option Row → Option Text
value_in = option_and_then (λ (r : Row). slice_get r.values 0)

first_or : (b : Bool) (id text : Text) (rest : Option Row) (other : Option Text) → value_in rest ≡ other
    → value_in (cond b (Some (row_with id text)) rest) ≡ cond b (Some text) other
first_or true id text rest other is = refl
first_or false id text rest other is = is

pub option_value : (name : Text) → bytes_eq (codes "script") name ≡ false → (given : List Given) → list_all is_known given ≡ true
    → first_of name (rows_for given) ≡ value_of name given
option_value name apart [] known = refl
option_value name apart (option other value ∷ rest) known =
    first_or (bytes_eq other name) other value _ _ (option_value name apart rest (and_parts _ _ known).1)
option_value name apart (positional word ∷ rest) known = rw apart (option_value name apart rest known)
option_value name apart (refused ∷ rest) known = absurd (true≢false (sym known))

pub positional_value : (given : List Given) → list_all is_known given ≡ true → first_of (codes "script") (rows_for given) ≡ positional_of given
positional_value [] known = refl
positional_value (option name value ∷ rest) known =
    let parts = and_parts _ _ known in
    rw (option_apart name parts.0) (positional_value rest parts.1)
positional_value (positional word ∷ rest) known = refl
positional_value (refused ∷ rest) known = absurd (true≢false (sym known))
