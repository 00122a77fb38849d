-- What the files and the numbers of a form in memory tell together.
use Rattle.std.specs.Prelude.{ℕ, List}
use Rattle.xio.specs.Told.{Told}
use Rattle.xio.specs.Shelf.{content_of, flushed_of}
use Rattle.xio.specs.Numbers.{name_at, call_at, names_asked, place_at}
use Rattle.xio.specs.declared.memory.ask.Ask.{Ask}
use Rattle.xio.specs.declared.memory.entry.Entry.{Entry}
use Rattle.xio.specs.declared.memory.stored_file.StoredFile.{StoredFile}

abbrev pub told_from : List StoredFile → List Entry → List Ask → List (List ℕ) → Told
told_from files entries asks makes = record {
  content = content_of files;
  flushed = flushed_of files;
  asked = names_asked asks;
  places = place_at asks;
  made = makes;
  name_of = name_at entries;
  call_of = call_at entries;
}
