use Rattle.std.proofs.Common.{ℕ, List, ◌<◌, length, arith}
use Rattle.std.specs.Borrow.{Bor}
use Rattle.std.proofs.lemmas.List.{length-map}
use Rattle.interleave_core.proofs.Pushing.{one_on}
use Rattle.interleave_core.specs.Schedule.{rows}
use Rattle.interleave_core.specs.declared.step.Step.TheVariants as step
use Rattle.interleave_core.proofs.scheduling.carry_due.Goals as goal

pub loop-place-preserved : goal.loop-place-preserved
loop-place-preserved c =
    let below : c.loop-place.place < length (rows c.args.left.now.items) = omega (arith, c.loop-place-test.true, c.len-place-end.ensures, c.args.left.now.ok, length-map c.args.left.now.items (λ (s : Bor (List ℕ)). s.now)) in
    let under : c.loop-place.place < length c.loop-place.left.items = omega (arith, c.loop-place-test.true, c.len-place-end.ensures, c.loop-place.invariant.many, c.loop-place.left.ok) in
    let on = one_on (λ p. step.Carry p) c.args.published c.loop-place.place (rows c.args.left.now.items) c.loop-place.left.items c.index.result.now c.in_ok-rest.rest c.loop-place.steps c.push_due.new.steps _ below under
    c.loop-place.invariant.steps c.loop-place.invariant.left c.index.ensures c.in_ok-rest.ensures.left c.in_ok-rest.ensures.steps in
    record { steps = on.steps_are; left = on.left_are; many = c.loop-place.invariant.many }
