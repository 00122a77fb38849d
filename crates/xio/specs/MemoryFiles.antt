-- What files in memory tell: everything.
use Rattle.std.specs.Prelude.{ℕ, Bool, List}
use Rattle.xio.specs.FaultPlan.{FaultPlan}
use Rattle.xio.specs.Handles.{Handle}
use Rattle.xio.specs.Told.{Told}
use Rattle.xio.specs.InMemory.{told_from}
use Rattle.xio.specs.Shelf.{setups_of}
use Rattle.xio.specs.Numbers.{handle_at}
use Rattle.xio.specs.declared.memory.files.MemoryFiles.{MemoryFiles}

abbrev pub told_by : MemoryFiles → Told
told_by files = told_from files.shelf.files.items files.numbers.entries.items files.numbers.asks.items files.numbers.makes.items

-- where it is to fail
abbrev pub plan_of : MemoryFiles → FaultPlan
plan_of files = record {
  calls = files.calls;
  capacity = files.capacity;
  setups = setups_of files.shelf.files.items;
}

abbrev pub handles_of : MemoryFiles → ℕ → Handle
handles_of files = handle_at files.numbers.entries.items

-- whether a file has the name
abbrev pub has_file : MemoryFiles → List ℕ → Bool
has_file files name = (setups_of files.shelf.files.items name).there

abbrev pub read_faults_of : MemoryFiles → ℕ
read_faults_of files = files.read_faults

abbrev pub write_faults_of : MemoryFiles → ℕ
write_faults_of files = files.write_faults
