-- The words that the tool takes: those that name files, without the options that it can't serve yet.
use Rattle.std.specs.Prelude.{ℕ, List, is_some, Option, Some, None, Result, Ok, Err, if◌then◌else◌}
use Rattle.command_line.specs.Names.{Names, file_names}
use Rattle.xdp_tool.specs.declared.ending.Ending.{Ending}
use Rattle.xdp_tool.specs.declared.ending.Ending.TheVariants.{Usage}

abbrev pub served : Option Names → Result Names Ending
served None = Err Usage
served (Some names) = if is_some names.capture then Err Usage else Ok names

unfoldable pub names_in : List (List ℕ) → Result Names Ending
names_in words = served (file_names words)
