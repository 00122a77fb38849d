use Rattle.std.proofs.Common.{◌≡◌}
use Rattle.xio.proofs.Taken.{HasTaken}
use Rattle.xio.proofs.reading.read_all.Given as goal

abbrev pub invariant-loop-taken : goal.invariant-loop-taken
invariant-loop-taken g l = record {
  progress : HasTaken g.S.Source.tells l.limit l.room (g.S.Source.rest l.fn.source) (g.S.Source.rest l.source) l.fn.into l.into;
  same_faults : g.S.Source.faults l.source ≡ g.S.Source.faults l.fn.source;
  same_setting : g.S.Source.setting l.source ≡ g.S.Source.setting l.fn.source;
}

abbrev pub decreases-loop-taken : goal.decreases-loop-taken
decreases-loop-taken g l = l.room
