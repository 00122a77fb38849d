use Rattle.std.proofs.Common.{◌≡◌, ℕ, ◌<◌, ◌++◌, ◌∷◌, [], List, length, ap, sym, subst, ◌∙◌, arith}
use Rattle.std.specs.List.{filter, range_with_len, All}
use Rattle.std.proofs.lemmas.List.Elements.{All-push}
use Rattle.elf_objects.specs.Object.{sections}
use Rattle.elf_objects.specs.Section.{section_count}
use Rattle.object_load.specs.Sections.{constant_sections, holds_constants}
use Rattle.object_load.proofs.Counts.{sections_counted}
use Rattle.object_load.proofs.Ranges.{filter_failed, filter_passed}
use Rattle.object_load.proofs.sections.constant_sections.Goals as goal

pub loop-number-preserved-then-not-holds_constants : goal.loop-number-preserved-then-not-holds_constants
loop-number-preserved-then-not-holds_constants c = record {
  numbers = c.loop-number.invariant.numbers ∙ sym (filter_failed (holds_constants c.args.object.now) c.loop-number.number (sym c.holds_constants.ensures ∙ c.if-not-holds_constants.true));
  known = c.loop-number.invariant.known;
}

pub loop-number-preserved : goal.loop-number-preserved
loop-number-preserved c =
    let file = c.args.object.now in
    let number = c.loop-number.number in
    record {
      numbers = c.in_ok-push.ensures.ok ∙ ap (λ (xs : List ℕ). xs ++ number ∷ []) c.loop-number.invariant.numbers ∙ sym (filter_passed (holds_constants file) number (sym c.holds_constants.ensures ∙ c.if-not-holds_constants.false));
      known = subst (λ (xs : List ℕ). All (λ number. number < length (sections file)) xs) (sym c.in_ok-push.ensures.ok) (All-push (λ number. number < length (sections file)) c.loop-number.numbers number c.loop-number.invariant.known (omega arith));
    }

pub returns-clause-sections : goal.returns-clause-sections
unfolding constant_sections
returns-clause-sections c =
    let file = c.args.object.now in
    let count = sections_counted file in
    let end : c.loop-number.number ≡ section_count file = omega arith in
    c.loop-number.invariant.numbers ∙ ap (λ (n : ℕ). filter (holds_constants file) (range_with_len 0 n)) end
