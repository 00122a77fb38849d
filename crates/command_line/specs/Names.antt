-- The files that the words of a command line name.
use Rattle.std.specs.Prelude.{◌==◌, ◌&&◌, Bool, false, not, List, length, Option, Some, None, option_map, option_and_then, codes, bytes_eq, if◌then◌else◌}
use Rattle.command_line.specs.Given.{Given, are_taken, given_by, positional_of, value_of}
use Rattle.command_line.specs.Words.{Text}
use Rattle.command_line.specs.declared.names.FileNames.{FileNames}

pub record Names : Type 0 where
  pub script : Text
  pub capture : Option Text
  pub trace : Option Text
  pub replay : Option Text

abbrev pub names_of : FileNames → Names
names_of names = record {
  script = names.script.now;
  capture = option_map (λ name. name.now) names.capture;
  trace = option_map (λ name. name.now) names.trace;
  replay = option_map (λ name. name.now) names.replay;
}

abbrev pub is_empty_name : Option Text → Bool
is_empty_name None = false
is_empty_name (Some name) = length name == 0

abbrev pub has_whole_names : Names → Bool
has_whole_names names = not (is_empty_name (Some names.script)) && not (is_empty_name names.capture)
    && not (is_empty_name names.trace) && not (is_empty_name names.replay)

abbrev pub are_same : Option Text → Option Text → Bool
are_same (Some name) (Some other) = bytes_eq name other
are_same _ _ = false

-- the files of `--capture` and `--trace` are made: each has a name that no other file has
abbrev pub has_own_made_names : Names → Bool
has_own_made_names names = not (are_same names.capture (Some names.script)) && not (are_same names.capture names.trace)
    && not (are_same names.capture names.replay) && not (are_same names.trace (Some names.script))
    && not (are_same names.trace names.replay)

abbrev pub named_by : List Given → Text → Names
named_by given script = record {
  script = script;
  capture = value_of (codes "capture") given;
  trace = value_of (codes "trace") given;
  replay = value_of (codes "replay") given;
}

abbrev pub if_good : Names → Option Names
if_good names = if has_whole_names names && has_own_made_names names then Some names else None

abbrev pub names_in : List Given → Option Names
names_in given =
    if are_taken given then option_and_then (λ script. if_good (named_by given script)) (positional_of given) else None

-- none where the words aren't taken
unfoldable pub file_names : List Text → Option Names
file_names words = names_in (given_by words)
