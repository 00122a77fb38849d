-- The lines of `xdp-loader`, by the words behind the first.
use Rattle.std.specs.Prelude.{ℕ, Bool, not, List, Option, Some, None, is_some, Result, Ok, Err, if◌then◌else◌}
use Rattle.std.specs.List.{list_all}
use Rattle.xdp_state.specs.declared.mode.Mode.TheVariants.{Native}
use Rattle.xdp_state.specs.declared.command.Command.{Command}
use Rattle.xdp_state.specs.declared.command.Command.TheVariants.{LoaderLoad, LoaderUnload, LoaderStatus}
use Rattle.script_text.specs.Names.{is_name}
use Rattle.script_text.specs.Objects.{object_place}
use Rattle.script_text.specs.Options.{Arranged, PlainWords}
use Rattle.script_text.specs.Readings.{◌>>=◌, both, if_given, keeps, or_else}
use Rattle.script_text.specs.Words.{is_printable}
use Rattle.script_text.specs.declared.options.Given.{Given}
use Rattle.script_text.specs.declared.options.Verb.{Verb}
use Rattle.script_text.specs.declared.options.Verb.TheVariants as verb

-- A program of an object, whose name is printable as the line is, for an interface. The mode is native where no option says otherwise; without a priority or actions those of the
-- program hold.
unfoldable pub load_of : List (List ℕ) → Given → PlainWords → List ℕ → List ℕ → Result Command ℕ
load_of objects given plain name object =
    keeps 1 (list_all is_printable object) >>= λ _.
    both (keeps 5 (is_name name)) (both (or_else given.mode Native) (both (if_given given.priority) (if_given given.actions)))
    >>= λ read. Ok (LoaderLoad (record {
      interface = name;
      object = object_place objects object;
      name = plain.name;
      section = plain.section;
      mode = read.1.0;
      priority = read.1.1.0;
      mask = read.1.1.1;
    }))

-- one of the two holds, and the other doesn't
abbrev pub is_one_of : Bool → Bool → Bool
is_one_of one other = if one then not other else other

-- the member of an id, or all members
unfoldable pub unload_of : Given → List ℕ → Result Command ℕ
unload_of given name =
    both (if_given given.id) (both (keeps 5 (is_name name)) (keeps 13 (is_one_of (is_some given.id) given.all)))
    >>= λ read. Ok (LoaderUnload name read.0)

-- one interface, or all
unfoldable pub status_of : Option (List ℕ) → Result Command ℕ
status_of None = Ok (LoaderStatus None)
status_of (Some name) = keeps 5 (is_name name) >>= λ _. Ok (LoaderStatus (Some name))

-- the command of a verb, by its own words
abbrev pub command_of : List (List ℕ) → Verb → Given → PlainWords → Option (List ℕ) → Option (List ℕ) → Result Command ℕ
command_of objects verb.LoaderLoad given plain (Some name) (Some object) = load_of objects given plain name object
command_of objects verb.LoaderUnload given plain (Some name) None = unload_of given name
command_of objects verb.LoaderStatus given plain name None = status_of name
command_of objects _ given plain _ _ = Err 3

unfoldable pub loader_command : List (List ℕ) → Verb → Arranged → Result Command ℕ
loader_command objects verb words =
    command_of objects verb words.given words.plain words.plain.first words.plain.second
