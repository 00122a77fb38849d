use Rattle.std.proofs.Common.{◌≡◌, ◌-◌, ◌<◌, ◌^◌, ◌++◌, vec_len}
use Rattle.interleave_core.specs.Schedule.{rows, steps_after}
use Rattle.interleave_core.proofs.scheduling.add_phase.Given as goal

abbrev pub invariant-loop-published : goal.invariant-loop-published
invariant-loop-published l = record {
  steps : l.steps ++ steps_after l.published (l.asked.published - l.published) (rows l.needs.items) (rows l.counts.items)
      ≡ l.initial.steps ++ steps_after l.first (l.asked.published - l.first) (rows l.initial.needs.items) (rows l.initial.counts.items);
  needs : vec_len l.needs < 2 ^ 32;
  counts : vec_len l.counts < 2 ^ 32;
}
