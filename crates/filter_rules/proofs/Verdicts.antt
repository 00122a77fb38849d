-- The items of a list decide one part after the other.
use Rattle.std.proofs.Common.{◌≡◌, List, [], ◌∷◌, ◌++◌, refl, arith}
use Rattle.std.specs.Option.{option_or}
use Rattle.std.proofs.lemmas.Grind.{common_steps}
use Rattle.filter_rules.specs.Verdict.{Item, Ask, Mark, decided}
use Rattle.filter_rules.specs.declared.policy.Policy.{Policy}
use Rattle.filter_rules.specs.declared.rule.RuleRow.{RuleRow}

pub decided-append : (rows : List RuleRow) (policy : Policy) (items more : List Item)
    → decided rows policy (items ++ more) ≡ option_or (decided rows policy items) (decided rows policy more)
decided-append rows policy [] more = refl
decided-append rows policy (Mark ∷ items) more = refl
decided-append rows policy (Ask key flag ∷ items) more = grind (arith, common_steps, decided-append rows policy items more)

pub ruleset parts_in_turn = (decided-append)
