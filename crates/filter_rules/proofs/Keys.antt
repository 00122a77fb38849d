-- Setting and clearing a rule keep the keys of the rows different.
use Rattle.std.proofs.Common.{◌≡◌, ℕ, Bool, true, false, List, [], ◌∷◌, bit_or, arith, refl}
use Rattle.std.specs.List.{list_any}
use Rattle.std.proofs.lemmas.List.Folds.{list_any-append}
use Rattle.std.proofs.lemmas.Grind.{common_steps}
use Rattle.std.proofs.lemmas.Bool.Decides.{nat_tests}
use Rattle.filter_rules.specs.Rule.{same_kind, same_key, answers}
use Rattle.filter_rules.specs.Rules.{has_key, has_row, have_different_keys, edit_or_push, replace_first, without_flags, set_rule, clear_rule}
use Rattle.filter_rules.specs.declared.rule.RuleKey.{RuleKey}
use Rattle.filter_rules.specs.declared.rule.RuleKind.{RuleKind}
use Rattle.filter_rules.specs.declared.rule.RuleKind.TheVariants.{Port, Ip4, Ip6, Ether}
use Rattle.filter_rules.specs.declared.rule.RuleRow.{RuleRow}

same_kind_sym : (a b : RuleKind) → same_kind a b ≡ same_kind b a
same_kind_sym Port Port = refl
same_kind_sym Port Ip4 = refl
same_kind_sym Port Ip6 = refl
same_kind_sym Port Ether = refl
same_kind_sym Ip4 Port = refl
same_kind_sym Ip4 Ip4 = refl
same_kind_sym Ip4 Ip6 = refl
same_kind_sym Ip4 Ether = refl
same_kind_sym Ip6 Port = refl
same_kind_sym Ip6 Ip4 = refl
same_kind_sym Ip6 Ip6 = refl
same_kind_sym Ip6 Ether = refl
same_kind_sym Ether Port = refl
same_kind_sym Ether Ip4 = refl
same_kind_sym Ether Ip6 = refl
same_kind_sym Ether Ether = refl

pub same_key_sym : (a b : RuleKey) → same_key a b ≡ same_key b a
same_key_sym a b = grind (arith, nat_tests, same_kind_sym a.kind b.kind)

list_any-edited : {X : Type 0} (has p : X → Bool) (edit : X → X) (new : X) (xs : List X)
    → ((x : X) → has (edit x) ≡ has x) → has new ≡ false → list_any has xs ≡ false
    → list_any has (edit_or_push p edit new xs) ≡ false
list_any-edited has p edit new [] same fresh none = grind (arith, fresh)
list_any-edited has p edit new (x ∷ xs) same fresh none =
    grind (arith, common_steps, same x, list_any-edited has p edit new xs same fresh)

list_any-replaced : {X : Type 0} (has p : X → Bool) (items : X → List X) (xs : List X)
    → ((x : X) → has x ≡ false → list_any has (items x) ≡ false) → list_any has xs ≡ false
    → list_any has (replace_first p items xs) ≡ false
list_any-replaced has p items [] kept none = refl
list_any-replaced has p items (x ∷ xs) kept none =
    grind (arith, common_steps, kept x, list_any-append has (items x) xs, list_any-replaced has p items xs kept)

has_row-set : (rows : List RuleRow) (key other : RuleKey) (flags number : ℕ) → same_key key other ≡ false
    → has_row rows other ≡ false → has_row (set_rule rows key flags number) other ≡ false
has_row-set rows key other flags number fresh none =
    list_any-edited (has_key other) (has_key key) (λ row. record row { flags = bit_or row.flags flags }) _ rows (λ row. refl) fresh none

without_flags-key : (flags : ℕ) (row : RuleRow) (other : RuleKey) → has_key other row ≡ false
    → list_any (has_key other) (without_flags flags row) ≡ false
without_flags-key flags row other none = grind (arith, nat_tests, none)

has_row-clear : (rows : List RuleRow) (key other : RuleKey) (flags : ℕ) → has_row rows other ≡ false
    → has_row (clear_rule rows key flags) other ≡ false
has_row-clear rows key other flags none =
    list_any-replaced (has_key other) (answers key flags) (without_flags flags) rows (λ row. without_flags-key flags row other) none

pub different-set : (rows : List RuleRow) (key : RuleKey) (flags number : ℕ) → have_different_keys rows ≡ true
    → have_different_keys (set_rule rows key flags number) ≡ true
different-set [] key flags number all = refl
different-set (row ∷ rows) key flags number all =
    grind (arith, common_steps, same_key_sym row.key key, has_row-set rows key row.key flags number, different-set rows key flags number)

pub different-clear : (rows : List RuleRow) (key : RuleKey) (flags : ℕ) → have_different_keys rows ≡ true
    → have_different_keys (clear_rule rows key flags) ≡ true
different-clear [] key flags all = refl
different-clear (row ∷ rows) key flags all =
    grind (arith, common_steps, has_row-clear rows key row.key flags, different-clear rows key flags)
