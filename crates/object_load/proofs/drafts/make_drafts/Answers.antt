use Rattle.std.proofs.Common.{Ok, arith}
use Rattle.std.proofs.lemmas.Option.{slice_get-get_or}
use Rattle.object_load.specs.declared.refusal.LoadRefusal.TheVariants.{BadInsn}
use Rattle.object_load.specs.Code.{IsDraft, IsReady}
use Rattle.object_load.proofs.Items.{all_more, all_start, each_all, each_first, paired_more, paired_start}
use Rattle.object_load.proofs.drafts.make_drafts.Goals as goal

pub loop-function-init : goal.loop-function-init
loop-function-init c = record {
  each = paired_start (λ function draft. IsDraft c.args.object.now function (Ok draft)) _ c.new-drafts.ensures;
  ready = all_start (IsReady c.args.object.now) _ c.new-drafts.ensures;
}

pub returns-in-Err-Bad-clause-drafts : goal.returns-in-Err-Bad-clause-drafts
returns-in-Err-Bad-clause-drafts c =
    rw (c.in-Err-Bad.field-0-is, c.len.ensures)
    (each_first (IsDraft c.args.object.now) BadInsn c.args.functions.now c.loop-function.drafts c.loop-function.function-index _ c.in-Err-Bad.slot (slice_get-get_or c.args.functions.now c.loop-function.function-index _ (omega arith)) c.loop-function.invariant.each (rw c.in-Err-Bad.field-0-is at c.in-Err-Bad.ensures.draft))

pub loop-function-preserved : goal.loop-function-preserved
loop-function-preserved c =
    let file = c.args.object.now in
    record {
      each = paired_more (λ function draft. IsDraft file function (Ok draft)) c.args.functions.now c.loop-function.drafts _ c.loop-function.function-index _ c.in-Ok.draft c.in_ok-push.ensures.ok (slice_get-get_or c.args.functions.now c.loop-function.function-index _ (omega arith)) c.loop-function.invariant.each c.in-Ok.ensures.draft;
      ready = all_more (IsReady file) c.loop-function.drafts _ c.in-Ok.draft c.in_ok-push.ensures.ok c.loop-function.invariant.ready c.in-Ok.ensures.ready;
    }

pub returns-clause-drafts : goal.returns-clause-drafts
returns-clause-drafts c =
    each_all (IsDraft c.args.object.now) BadInsn c.args.functions.now c.loop-function.drafts c.loop-function.function-index (omega arith) c.loop-function.invariant.each
