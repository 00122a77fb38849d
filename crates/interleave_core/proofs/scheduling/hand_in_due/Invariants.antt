use Rattle.std.proofs.Common.{◌≡◌, ◌++◌, drop, take, vec_len}
use Rattle.interleave_core.specs.Schedule.{all_left, due_steps, rows}
use Rattle.interleave_core.specs.declared.step.Step.TheVariants as step
use Rattle.interleave_core.proofs.scheduling.hand_in_due.Given as goal

abbrev pub invariant-loop-place : goal.invariant-loop-place
invariant-loop-place l = record {
  steps : l.steps ++ due_steps (λ p. step.HandIn p) l.published l.place (drop l.place (rows l.initial.left.items))
      ≡ l.initial.steps ++ due_steps (λ p. step.HandIn p) l.published 0 (rows l.initial.left.items);
  left : rows l.left.items
      ≡ all_left l.published (take l.place (rows l.initial.left.items)) ++ drop l.place (rows l.initial.left.items);
  many : vec_len l.left ≡ vec_len l.initial.left;
}
