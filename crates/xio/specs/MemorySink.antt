-- What a sink in memory tells, and where it is to fail.
use Rattle.std.specs.Prelude.{ℕ, List}
use Rattle.xio.specs.CallPlan.{CallPlan}
use Rattle.xio.specs.declared.memory.sink.MemorySink.{MemorySink}

abbrev pub calls_of : MemorySink → CallPlan
calls_of sink = sink.calls

-- how many bytes it has room for
abbrev pub capacity_of : MemorySink → ℕ
capacity_of sink = sink.room.size

abbrev pub held_by : MemorySink → List ℕ
held_by sink = sink.room.bytes

abbrev pub flushed_of : MemorySink → ℕ
flushed_of sink = sink.flushed

abbrev pub faults_of : MemorySink → ℕ
faults_of sink = sink.faults
