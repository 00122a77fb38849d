use Rattle.std.proofs.Common.{◌≡◌, length, Ok, Some, refl, arith, rules}
use Rattle.std.specs.List.{slice_get}
use Rattle.std.proofs.lemmas.Option.{slice_get_read}
use Rattle.object_load.specs.declared.refusal.LoadRefusal.TheVariants.{BadReloc}
use Rattle.object_load.specs.Linking.{program_of}
use Rattle.object_load.specs.Load.{IsRunnable}
use Rattle.object_load.proofs.Items.{all_more, all_start, each_all, each_first, paired_more, paired_start}
use Rattle.object_load.proofs.Linked.{runnable_from}
use Rattle.object_load.proofs.linking.make_programs.Goals as goal

pub loop-draft-init : goal.loop-draft-init
loop-draft-init c = record {
  each = paired_start (λ draft program. Ok program ≡ program_of c.args.object.now c.args.maps.now draft) _ c.new-programs.ensures;
  runnable = all_start IsRunnable _ c.new-programs.ensures;
  known = c.in_ok-known.ensures c.args.object.now c.args.maps.now;
}

pub returns-in-Err-Bad-clause-programs : goal.returns-in-Err-Bad-clause-programs
returns-in-Err-Bad-clause-programs c =
    let drafts = c.args.drafts.now in
    let i = c.loop-draft.draft-index in
    rw (c.in-Err-Bad.field-0-is, c.len.ensures)
    (each_first (λ draft answer. answer ≡ program_of c.args.object.now c.args.maps.now draft) BadReloc drafts c.loop-draft.programs i c.draft-item.result c.in-Err-Bad.slot (slice_get_read drafts (length drafts) i c.draft-item.result refl (omega arith) c.draft-item.is) c.loop-draft.invariant.each (rw c.in-Err-Bad.field-0-is at c.in-Err-Bad.ensures.program))

pub loop-draft-preserved : goal.loop-draft-preserved
loop-draft-preserved c =
    let file = c.args.object.now in
    let maps = c.args.maps.now in
    let drafts = c.args.drafts.now in
    let i = c.loop-draft.draft-index in
    let there : slice_get drafts i ≡ Some c.draft-item.result = slice_get_read drafts (length drafts) i c.draft-item.result refl (omega arith) c.draft-item.is in
    record {
      each = paired_more (λ draft program. Ok program ≡ program_of file maps draft) drafts c.loop-draft.programs _ i c.draft-item.result c.in-Ok.program c.in_ok-push.ensures.ok there c.loop-draft.invariant.each c.in-Ok.ensures.program;
      runnable = all_more IsRunnable c.loop-draft.programs _ c.in-Ok.program c.in_ok-push.ensures.ok c.loop-draft.invariant.runnable (runnable_from file maps c.draft-item.result c.in-Ok.program c.in-Ok.ensures.program (search rules) c.requires.makeable);
      known = c.in-Ok.ensures.known;
    }

pub returns-clause-programs : goal.returns-clause-programs
returns-clause-programs c =
    each_all (λ draft answer. answer ≡ program_of c.args.object.now c.args.maps.now draft) BadReloc c.args.drafts.now c.loop-draft.programs c.loop-draft.draft-index (omega arith) c.loop-draft.invariant.each
