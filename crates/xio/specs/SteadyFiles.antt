-- What steady files keep: all that files may tell, but that a made file stays empty.
use Rattle.std.specs.Prelude.{ℕ, Bool, List}
use Rattle.xio.specs.Handles.{Handle}
use Rattle.xio.specs.Told.{Told}
use Rattle.xio.specs.InMemory.{told_from}
use Rattle.xio.specs.Shelf.{setups_of}
use Rattle.xio.specs.Numbers.{handle_at}
use Rattle.xio.specs.declared.memory.steady_files.SteadyFiles.{SteadyFiles}

abbrev pub kept_by : SteadyFiles → Told
kept_by files = told_from files.shelf.files.items files.numbers.entries.items files.numbers.asks.items files.numbers.makes.items

abbrev pub handles_of : SteadyFiles → ℕ → Handle
handles_of files = handle_at files.numbers.entries.items

-- whether a file has the name
abbrev pub has_file : SteadyFiles → List ℕ → Bool
has_file files name = (setups_of files.shelf.files.items name).there
