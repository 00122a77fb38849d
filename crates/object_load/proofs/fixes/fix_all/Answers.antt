use Rattle.std.proofs.Common.{sym, arith}
use Rattle.std.proofs.lemmas.Result.{err_from_is_err_and}
use Rattle.object_load.proofs.Fixing.{left_bad, left_next, left_none, left_other}
use Rattle.object_load.proofs.fixes.fix_all.Goals as goal

pub loop-reloc-preserved-in_default : goal.loop-reloc-preserved-in_default
loop-reloc-preserved-in_default c = record {
  known = c.loop-reloc.invariant.known;
  left =
      left_other c.args.object.now c.args.maps.now c.args.own c.args.piece c.args.relocs.now c.loop-reloc.reloc-index _ c.loop-reloc.insns _ (omega arith) (sym c.in_default.ensures.place) c.loop-reloc.invariant.left;
}

pub returns-in_err-fix-clause-fixed : goal.returns-in_err-fix-clause-fixed
returns-in_err-fix-clause-fixed c =
    let p = err_from_is_err_and c.from_residual.result c.from_residual.ensures.1 in
    rw (p.1, p.2) (sym (left_bad c.args.object.now c.args.maps.now c.args.own c.args.piece c.args.relocs.now c.loop-reloc.reloc-index _ c.loop-reloc.insns _ c.in-Some.place c.in_err-fix.field-0.0 (omega arith) (sym c.in-Some.ensures.place) (sym c.in_err-fix.ensures.fixed) c.loop-reloc.invariant.left))

pub loop-reloc-preserved : goal.loop-reloc-preserved
loop-reloc-preserved c = record {
  known = c.in_ok-fix.ensures.known;
  left =
      left_next c.args.object.now c.args.maps.now c.args.own c.args.piece c.args.relocs.now c.loop-reloc.reloc-index _ c.loop-reloc.insns c.fix.new.insns _ c.in-Some.place (omega arith) (sym c.in-Some.ensures.place) (sym c.in_ok-fix.ensures.fixed) c.loop-reloc.invariant.left;
}

pub returns-clause-fixed : goal.returns-clause-fixed
returns-clause-fixed c =
    sym (left_none c.args.object.now c.args.maps.now c.args.own c.args.piece c.args.relocs.now c.loop-reloc.reloc-index c.loop-reloc.insns _ (omega arith) c.loop-reloc.invariant.left)
