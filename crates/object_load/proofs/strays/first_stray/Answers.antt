use Rattle.std.proofs.Common.{sym, ◌∙◌, arith}
use Rattle.object_load.proofs.Marks.{no_stray, stray_found}
use Rattle.object_load.proofs.strays.first_stray.Goals as goal

pub returns-then-is_stray : goal.returns-then-is_stray
returns-then-is_stray c = λ fixes same.
    stray_found fixes c.args.marks.now c.args.insns.now c.args.own same c.loop-slot.slot (omega arith) c.loop-slot.invariant (sym c.is_stray.ensures ∙ c.if-is_stray.true)

pub returns : goal.returns
returns c = λ fixes same.
    no_stray fixes c.args.marks.now c.args.insns.now c.args.own same (λ k below. c.loop-slot.invariant k (omega arith))
