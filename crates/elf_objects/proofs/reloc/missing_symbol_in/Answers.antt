use Rattle.std.proofs.Common.{◌≡◌, ◌+◌, ◌-◌, ◌*◌, ◌/◌, false, Some, ap, subst, sym, ◌∙◌, inl, inr, arith}
use Rattle.std.proofs.lemmas.Bool.{cases_eq, cases_lt}
use Rattle.elf_objects.specs.declared.section.Section.{Section}
use Rattle.elf_objects.specs.Breaks.{first_place}
use Rattle.elf_objects.specs.Section.{section}
use Rattle.elf_objects.specs.Reloc.{reloc_place, lacks_symbol}
use Rattle.elf_objects.proofs.Contents.{rel_fits}
use Rattle.elf_objects.proofs.MarkLemmas.{clean_behind}
use Rattle.elf_objects.proofs.Search.{first_row, no_row}
use Rattle.elf_objects.proofs.Relocs.{rel_tests, no_rel_tests}
use Rattle.elf_objects.proofs.reloc.missing_symbol_in.Goals as goal

pub overflow_add-place : goal.overflow_add-place
overflow_add-place c =
    let fits = rel_fits c.args.file.now c.args.number _ c.requires.contents.contents c.requires.number c.section_at-section.ensures c.if-section-ne-REL.false in
    omega arith

pub lacks_symbol-requires-clause-place : goal.lacks_symbol-requires-clause-place
lacks_symbol-requires-clause-place c =
    let fits = rel_fits c.args.file.now c.args.number _ c.requires.contents.contents c.requires.number c.section_at-section.ensures c.if-section-ne-REL.false in
    omega arith

pub returns-then-section-ne-REL : goal.returns-then-section-ne-REL
returns-then-section-ne-REL c = sym (ap first_place (no_rel_tests c.args.file.now c.args.number _ c.section_at-section.ensures c.if-section-ne-REL.true))

pub returns-then-lacks_symbol : goal.returns-then-lacks_symbol
returns-then-lacks_symbol c =
    let file = c.args.file.now in
    let number = c.args.number in
    let section_is = c.section_at-section.ensures in
    let count = ap (λ (s : Section). s.size / 16) section_is in
    let place = ap (λ (s : Section). s.offset + 16 * c.loop-index.index) section_is in
    ap Some place
    ∙ sym (ap first_place (rel_tests file number _ section_is c.if-section-ne-REL.false)
    ∙ first_row (reloc_place file number) (λ index. lacks_symbol file (reloc_place file number index)) (λ i j h. omega arith) ((section file number).size / 16) _ (λ k before. c.loop-index.invariant.passed k before (omega arith)) (omega arith) (ap (lacks_symbol file) (sym place) ∙ cc))

pub returns : goal.returns
returns c =
    let file = c.args.file.now in
    let number = c.args.number in
    let section_is = c.section_at-section.ensures in
    let count = ap (λ (s : Section). s.size / 16) section_is in
    sym (ap first_place (rel_tests file number _ section_is c.if-section-ne-REL.false)
    ∙ no_row (reloc_place file number) (λ index. lacks_symbol file (reloc_place file number index)) (λ i j h. omega arith) ((section file number).size / 16) (λ k known. c.loop-index.invariant.passed k (omega arith) (omega arith)))

pub loop-index-preserved-then-is_clean : goal.loop-index-preserved-then-is_clean
loop-index-preserved-then-is_clean c =
    let file = c.args.file.now in
    let number = c.args.number in
    let section = c.section_at-section.result in
    let section_is = c.section_at-section.ensures in
    let fits = rel_fits file number section c.requires.contents.contents c.requires.number section_is c.if-section-ne-REL.false in
    let index = c.loop-index.index in
    let left = c.relocs_left-index.ensures in
    record {
      passed = λ k below known. elim (cases_lt k index) [
        | inl before ↦ c.loop-index.invariant.passed k before known
        | inr behind ↦
            (let place : (section.offset + 16 * index) + 16 * (k - index) ≡ section.offset + 16 * k = omega arith in
            let named = ap (λ (s : Section). s.offset + 16 * k) section_is in
            let mark = sym c.is_clean.ensures ∙ c.if-is_clean.true in
            subst (λ at. lacks_symbol file at ≡ false) (place ∙ named)
            (clean_behind file c.args.marks.now (section.offset + 16 * index) (k - index) c.requires.marks mark (omega (arith, left.left)) (omega (arith, fits))))
      ];
      within = omega (arith, left.few, c.loop-index-test.true);
    }

pub loop-index-preserved : goal.loop-index-preserved
loop-index-preserved c =
    let file = c.args.file.now in
    let number = c.args.number in
    let index = c.loop-index.index in
    let place = ap (λ (s : Section). s.offset + 16 * index) c.section_at-section.ensures in
    let here : lacks_symbol file (reloc_place file number index) ≡ false = ap (lacks_symbol file) (sym place) ∙ sym c.lacks_symbol.ensures ∙ c.if-lacks_symbol.false in
    record {
      passed = λ k below known. elim (cases_eq k index) [
        | inl e ↦ subst (λ n. lacks_symbol file (reloc_place file number n) ≡ false) (sym e) here
        | inr n ↦ c.loop-index.invariant.passed k (omega arith) known
      ];
      within = omega (arith, c.loop-index-test.true);
    }
