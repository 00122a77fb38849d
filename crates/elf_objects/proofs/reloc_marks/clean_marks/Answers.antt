use Rattle.std.proofs.Common.{◌∙◌, sym, arith}
use Rattle.std.proofs.lemmas.List.{length-set}
use Rattle.elf_objects.proofs.MarkLemmas.{mark_below, marks_all, marks_kept, marks_taken}
use Rattle.elf_objects.proofs.reloc_marks.clean_marks.Goals as goal
use Rattle.elf_objects.proofs.reloc_marks.clean_marks.Goals.{then-lacks_symbol, else-lacks_symbol}

pub bounds-marks-mark_of : goal.bounds-marks-mark_of
bounds-marks-mark_of c = rw c.mark_of.ensures (mark_below c.loop-place.place (omega (arith, c.min-place-end.ensures)))

pub loop-place-preserved : goal.loop-place-preserved
loop-place-preserved c =
    let so_far = c.loop-place.invariant in
    let marks = c.loop-place.marks in
    let place = c.loop-place.place in
    elim c.if-lacks_symbol.branch [
      | then-lacks_symbol w ↦
          rw (w.marks-is, w.mark_of.ensures) (record { len = length-set marks _ _ ∙ so_far.len; seen = marks_taken c.args.file.now marks place so_far.seen })
      | else-lacks_symbol w ↦
          rw w.marks-is (record {
            len = so_far.len;
            seen = marks_kept c.args.file.now marks place so_far.seen (sym c.lacks_symbol.ensures ∙ w.if-lacks_symbol.false);
          })
    ]

pub returns : goal.returns
returns c =
    let so_far = c.loop-place.invariant in
    marks_all c.args.file.now c.loop-place.marks c.min-place-end.result so_far.len
    (λ place within small. omega (arith, c.min-place-end.ensures, c.saturating_sub-places.ensures))
    (λ k below mark. so_far.seen k (omega (arith, c.loop-place-test.false)) mark)
