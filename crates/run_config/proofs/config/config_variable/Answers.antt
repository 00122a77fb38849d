use Rattle.std.proofs.Common.{◌≡◌, [], ap, drop, sym, ◌∙◌, arith}
use Rattle.run_config.specs.Variables.{parts_of}
use Rattle.run_config.proofs.FirstVariable.{config_variable-some, first_among, first_among-failed, first_among-other, first_among-passed, is_for}
use Rattle.run_config.proofs.Parts.{drop-parts}
use Rattle.run_config.proofs.config.config_variable.Goals as goal

pub loop-place-preserved-in_default : goal.loop-place-preserved-in_default
loop-place-preserved-in_default c =
    let types = c.args.types.now in
    let passed = first_among-other types (is_for types c.args.function.now) _ _ c.part_at.result.now c.part_at.ensures.left (sym c.in_default.ensures.variable) in
    sym passed ∙ c.loop-place.invariant

pub loop-place-preserved : goal.loop-place-preserved
loop-place-preserved c =
    let types = c.args.types.now in
    let passed = first_among-failed types (is_for types c.args.function.now) _ _ c.part_at.result.now c.in-Some.variable.now c.part_at.ensures.left (sym c.in-Some.ensures.variable) (sym c.is_named_for.ensures ∙ c.if-is_named_for.false) in
    sym passed ∙ c.loop-place.invariant

pub returns-then-is_named_for-clause-variable : goal.returns-then-is_named_for-clause-variable
returns-then-is_named_for-clause-variable c =
    let types = c.args.types.now in
    let all = config_variable-some types c.args.function.now c.in_ok-section.section.now (sym c.in_ok-section.ensures.section) in
    let found = first_among-passed types (is_for types c.args.function.now) _ _ c.part_at.result.now c.in-Some.variable.now c.part_at.ensures.left (sym c.in-Some.ensures.variable) (sym c.is_named_for.ensures ∙ c.if-is_named_for.true) in
    sym (all ∙ sym c.loop-place.invariant ∙ found)

pub returns-clause-variable : goal.returns-clause-variable
returns-clause-variable c =
    let types = c.args.types.now in
    let section = c.in_ok-section.section.now in
    let all = config_variable-some types c.args.function.now section (sym c.in_ok-section.ensures.section) in
    let end : c.loop-place.place ≡ section.count = omega arith in
    let none_left : drop c.loop-place.place (parts_of types section) ≡ [] = rw end (drop-parts types section) in
    sym (all ∙ sym c.loop-place.invariant ∙ ap (λ entries. first_among types (is_for types c.args.function.now) entries) none_left)
