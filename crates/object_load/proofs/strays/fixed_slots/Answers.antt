use Rattle.std.proofs.Common.{◌≡◌, ◌<◌, ◌≤◌, ◌*◌, ◌/◌, Bool, List, length, replicate, false, get_or, ap, sym, ◌∙◌, arith}
use Rattle.std.proofs.lemmas.List.{get_or-replicate}
use Rattle.object_load.specs.Linking.{bound_of}
use Rattle.object_load.proofs.Marks.{marks_kept, marks_set, none_fixed}
use Rattle.object_load.proofs.strays.fixed_slots.Goals as goal

pub loop-reloc-init : goal.loop-reloc-init
loop-reloc-init c =
    let items : c.in_ok-marks.marks.items ≡ replicate c.args.own false = c.in_ok-marks.ensures.items_if_clones_equal (λ y e. e) in
    record {
      len = c.in_ok-marks.ensures.len;
      marked = λ slot below. ap (λ (marks : List Bool). get_or marks slot false) items ∙ get_or-replicate c.args.own slot false false below ∙ sym (none_fixed c.args.piece slot);
    }

pub loop-reloc-preserved-in_default : goal.loop-reloc-preserved-in_default
loop-reloc-preserved-in_default c = record {
  len = c.loop-reloc.invariant.len;
  marked = λ slot below. marks_kept c.args.piece c.args.relocs.now c.loop-reloc.reloc-index _ (omega arith) c.loop-reloc.marks.items slot (sym c.in_default.ensures.place) (c.loop-reloc.invariant.marked slot below);
}

pub loop-reloc-preserved : goal.loop-reloc-preserved
loop-reloc-preserved c =
    let marks = c.loop-reloc.marks in
    let len = marks.ok.0 in
    let small : c.in-Some.place < bound_of c.args.piece = c.in-Some.ensures.small in
    let room : bound_of c.args.piece ≤ 8 * c.args.own = c.requires in
    let known = c.loop-reloc.invariant.len in
    let within : c.in-Some.place / 8 < length marks.items = omega arith in
    record {
      len = c.loop-reloc.invariant.len;
      marked = λ slot below. marks_set c.args.piece c.args.relocs.now c.loop-reloc.reloc-index _ (omega arith) marks.items c.in-Some.place slot within (sym c.in-Some.ensures.place) (c.loop-reloc.invariant.marked slot below);
    }
