use Rattle.std.proofs.Common.{◌≡◌, ◌≤◌, ◌-◌, ◌++◌, IsTrue, length, take}
use Rattle.xio.proofs.writing.write_all.Given as goal

abbrev pub invariant-loop-written : goal.invariant-loop-written
invariant-loop-written g l = record {
  within : l.written ≤ length l.bytes;
  held : IsTrue g.K.Sink.tells → g.K.Sink.held l.sink ≡ g.K.Sink.held l.fn.sink ++ take l.written l.bytes;
  flushed : IsTrue g.K.Sink.tells → g.K.Sink.flushed l.sink ≡ g.K.Sink.flushed l.fn.sink;
  same_faults : g.K.Sink.faults l.sink ≡ g.K.Sink.faults l.fn.sink;
  same_setting : g.K.Sink.setting l.sink ≡ g.K.Sink.setting l.fn.sink;
}

abbrev pub decreases-loop-written : goal.decreases-loop-written
decreases-loop-written g l = length l.bytes - l.written
