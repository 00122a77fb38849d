-- What a source in memory tells, and where it is to fail.
use Rattle.std.specs.Prelude.{ℕ, List, drop, Option}
use Rattle.xio.specs.CallPlan.{CallPlan}
use Rattle.xio.specs.declared.memory.source.MemorySource.{MemorySource}

abbrev pub rest_of : MemorySource → List ℕ
rest_of source = drop source.place source.bytes

abbrev pub faults_of : MemorySource → ℕ
faults_of source = source.faults

abbrev pub calls_of : MemorySource → CallPlan
calls_of source = source.calls

-- how many bytes were read
abbrev pub place_of : MemorySource → ℕ
place_of source = source.place

abbrev pub bad_place_of : MemorySource → Option ℕ
bad_place_of source = source.bad_place
