use Rattle.std.proofs.Common.{◌≡◌, ◌+◌, ◌++◌, drop, replicate}
use Rattle.interleave_core.specs.Schedule.{due}
use Rattle.interleave_core.proofs.scheduling.push_due.Given as goal

abbrev pub invariant-loop-place : goal.invariant-loop-place
invariant-loop-place l = record {
  steps : l.steps ≡ l.initial.steps ++ replicate l.place l.step;
  due : due l.published l.numbers ≡ l.place + due l.published (drop l.place l.numbers);
}
