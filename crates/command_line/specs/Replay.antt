-- Which words of a command line ask for a replay.
use Rattle.std.specs.Prelude.{◌||◌, Bool, List, codes, bytes_eq}
use Rattle.std.specs.List.{list_any, before_first}
use Rattle.command_line.specs.Words.{Text, begins_with}

abbrev pub asks_replay : Text → Bool
asks_replay word = bytes_eq word (codes "--replay") || begins_with word (codes "--replay=")

abbrev pub is_separator : Text → Bool
is_separator word = bytes_eq word (codes "--")

unfoldable pub wants_replay : List Text → Bool
wants_replay words = list_any asks_replay (before_first is_separator words)
