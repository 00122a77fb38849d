-- The lines of `xdpdump`, by their words.
use Rattle.std.specs.Prelude.{ℕ, ◌==◌, ◌&&◌, Bool, true, false, not, nat_le, nat_lt, List, [], ◌∷◌, ◌++◌, length, codes, Option, Some, None, Result, Ok, Err, if◌then◌else◌}
use Rattle.std.specs.Str.{bytes_eq}
use Rattle.xdp_state.specs.Library.{is_among}
use Rattle.xdp_state.specs.declared.command.Command.{Command}
use Rattle.xdp_state.specs.declared.command.Command.TheVariants.{DumpStop}
use Rattle.xdp_state.specs.declared.dump.DumpSetting.{DumpSetting}
use Rattle.script_text.specs.Names.{is_name}
use Rattle.script_text.specs.Options.{PlainWords}
use Rattle.script_text.specs.Readings.{◌>>=◌, both, keeps, or_else}
use Rattle.script_text.specs.Words.{parts_of}
use Rattle.script_text.specs.declared.options.Given.{Given}
use Rattle.script_text.specs.declared.word_lists.Sides.{Sides}
use Rattle.script_text.specs.declared.word_lists.Sides.TheVariants.{Entry, Exit, Both}

-- at most ten names of 1 to 128 bytes, each once
abbrev pub takes_name : List (List ℕ) → List ℕ → Bool
takes_name names name =
    nat_lt (length names) 10 && not (length name == 0) && nat_le (length name) 128 && not (is_among name names)

unfoldable pub with_name : List (List ℕ) → List ℕ → Result (List (List ℕ)) ℕ
with_name names name = keeps 11 (takes_name names name) >>= λ _. Ok (names ++ name ∷ [])

-- the names so far and those behind them
abbrev pub names_behind : List (List ℕ) → List (List ℕ) → Result (List (List ℕ)) ℕ
names_behind names [] = Ok names
names_behind names (name ∷ more) = with_name names name >>= λ names. names_behind names more

-- names with commas between them; the one word `all` is none of them
unfoldable pub names_of : List ℕ → Result (List (List ℕ)) ℕ
names_of list = if bytes_eq list (codes "all") then Ok [] else names_behind [] (parts_of 44 list)

abbrev pub names_given : Option (List ℕ) → Result (List (List ℕ)) ℕ
names_given None = Ok []
names_given (Some list) = names_of list

abbrev pub has_entry : Sides → Bool
has_entry Entry = true
has_entry Exit = false
has_entry Both = true

abbrev pub has_exit : Sides → Bool
has_exit Entry = false
has_exit Exit = true
has_exit Both = true

-- What a dump on the interface of the name asks for: packets as they enter all members, whole, where no option says otherwise.
unfoldable pub setting_of : Given → PlainWords → List ℕ → Result DumpSetting ℕ
setting_of given plain name =
    both (keeps 5 (is_name name)) (both (or_else given.sides Entry) (or_else given.snap 262144)) >>= λ read.
    names_given plain.names >>= λ names.
    Ok (record { names = names; entry = has_entry read.1.0; exit = has_exit read.1.0; snap = read.1.1 })

unfoldable pub stop_of : List ℕ → Result Command ℕ
stop_of name = keeps 5 (is_name name) >>= λ _. Ok (DumpStop name)
