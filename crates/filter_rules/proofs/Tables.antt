-- What a table says of the list of its rows.
use Rattle.std.proofs.Common.{◌≡◌, ℕ, zero, suc, Bool, true, false, cond, List, [], ◌∷◌, length, map, slice_get, find, Option, Some, None, Result, Ok, Err, IsErr, OnOk, IfOk, true≢false, is_some, if◌then◌else◌, not, bit_and, bit_or, refl, ap, sym, ◌∙◌, arith}
use Rattle.std.specs.Int.{w8, bit_not}
use Rattle.std.specs.List.{IsDistinct, list_any, AllByRecursion}
use Rattle.std.specs.Map.{keys_of, lookup, remove_entry, set_value}
use Rattle.std.specs.Bool.{then_some}
use Rattle.std.specs.Option.{option_map, option_map_or}
use Rattle.std.proofs.lemmas.Grind.{common_steps}
use Rattle.std.proofs.lemmas.Bool.Decides.{nat_tests}
use Rattle.filter_rules.specs.Rule.{same_kind, same_key, has_one_of, answers}
use Rattle.filter_rules.specs.Rules.{rows_of, has_key, has_row, has_rule, set_rule, number_of, clear_rule}
use Rattle.filter_rules.proofs.Keys.{same_key_sym}
use Rattle.filter_rules.specs.contracts.rule.RuleKeyPartialEq.TheImpl as keys
use Rattle.filter_rules.specs.contracts.rule.RuleKindPartialEq.TheImpl as kinds
use Rattle.filter_rules.specs.Table.{is_there, has_flag, number_at, set_row, clear_row}
use Rattle.filter_rules.specs.declared.rule.RuleKey.{RuleKey}
use Rattle.filter_rules.specs.declared.rule.RuleKind.{RuleKind}
use Rattle.filter_rules.specs.declared.rule.RuleKind.TheVariants.{Port, Ip4, Ip6, Ether}
use Rattle.filter_rules.specs.declared.rule.RuleRow.{RuleRow}
use Rattle.filter_rules.specs.declared.rule_table.RowValue.{RowValue}

pub slice_get-map : {X Y : Type 0} (f : X → Y) (xs : List X) (i : ℕ) → slice_get (map f xs) i ≡ option_map f (slice_get xs i)
slice_get-map f [] i = refl
slice_get-map f (x ∷ xs) zero = refl
slice_get-map f (x ∷ xs) (suc i) = slice_get-map f xs i

same_kinds : (a b : RuleKind) → kinds.eq-value.it a b ≡ same_kind a b
same_kinds Port Port = refl
same_kinds Port Ip4 = refl
same_kinds Port Ip6 = refl
same_kinds Port Ether = refl
same_kinds Ip4 Port = refl
same_kinds Ip4 Ip4 = refl
same_kinds Ip4 Ip6 = refl
same_kinds Ip4 Ether = refl
same_kinds Ip6 Port = refl
same_kinds Ip6 Ip4 = refl
same_kinds Ip6 Ip6 = refl
same_kinds Ip6 Ether = refl
same_kinds Ether Port = refl
same_kinds Ether Ip4 = refl
same_kinds Ether Ip6 = refl
same_kinds Ether Ether = refl

same_kind_is : (a b : RuleKind) → same_kind a b ≡ true → a ≡ b
same_kind_is Port Port e = refl
same_kind_is Port Ip4 e = absurd (true≢false (sym e))
same_kind_is Port Ip6 e = absurd (true≢false (sym e))
same_kind_is Port Ether e = absurd (true≢false (sym e))
same_kind_is Ip4 Port e = absurd (true≢false (sym e))
same_kind_is Ip4 Ip4 e = refl
same_kind_is Ip4 Ip6 e = absurd (true≢false (sym e))
same_kind_is Ip4 Ether e = absurd (true≢false (sym e))
same_kind_is Ip6 Port e = absurd (true≢false (sym e))
same_kind_is Ip6 Ip4 e = absurd (true≢false (sym e))
same_kind_is Ip6 Ip6 e = refl
same_kind_is Ip6 Ether e = absurd (true≢false (sym e))
same_kind_is Ether Port e = absurd (true≢false (sym e))
same_kind_is Ether Ip4 e = absurd (true≢false (sym e))
same_kind_is Ether Ip6 e = absurd (true≢false (sym e))
same_kind_is Ether Ether e = refl

-- the keys' own test is that of the rules
pub same_keys : (a b : RuleKey) → keys.eq-value.it a b ≡ same_key b a
same_keys a b = grind (arith, nat_tests, same_kinds a.kind b.kind) ∙ same_key_sym a b

apart : (x y key : RuleKey) → same_key x key ≡ true → same_key y x ≡ false → same_key y key ≡ false
apart x y key here other = grind (arith, nat_tests, here, other, same_kind_is x.kind key.kind)

-- the number of a row that has one of the flags
abbrev pub answer_of : ℕ → Option RowValue → Option ℕ
answer_of flags None = None
answer_of flags (Some value) = then_some (has_one_of value.flags flags) value.number

pub any-found : {X Y : Type 0} (p : X → Bool) (f : X → Y) (xs : List X) → is_some (option_map f (find p xs)) ≡ list_any p xs
any-found p f [] = refl
any-found p f (x ∷ xs) = grind (arith, common_steps, any-found p f xs)

pub if_ok-same : {X E : Type 0} (r : Result X E) (a b : X) → a ≡ b → IfOk r (λ n. n ≡ a) → IfOk r (λ n. n ≡ b)
if_ok-same (Ok n) a b same is = is ∙ same
if_ok-same (Err e) a b same is = tt

pub on_ok-then : {X E P Q : Type 0} (r : Result X E) → (P → Q) → OnOk r P → OnOk r Q
on_ok-then (Ok x) f p = f p
on_ok-then (Err e) f p = tt

-- what an Ok says, where the call fails at a false flag
pub on_ok-where : {X E P Q : Type 0} (r : Result X E) (flag : Bool) → (flag ≡ false → IsErr r) → (flag ≡ true → P → Q) → OnOk r P → OnOk r Q
on_ok-where (Ok x) true fails f p = f refl p
on_ok-where (Ok x) false fails f p = absurd (true≢false (sym (fails refl)))
on_ok-where (Err e) flag fails f p = tt

module _ (eq : RuleKey → RuleKey → Bool) (same : (a b : RuleKey) → eq a b ≡ same_key b a) where
  pub has_row-table : (es : List (RuleKey × RowValue)) (key : RuleKey) → has_row (rows_of es) key ≡ is_there eq es key
  has_row-table [] key = refl
  has_row-table (e ∷ es) key = grind (arith, common_steps, nat_tests, same key e.0, has_row-table es key)

  pub number_of-table : (es : List (RuleKey × RowValue)) (key : RuleKey) (number : ℕ)
      → number_of (rows_of es) key number ≡ number_at eq es key number
  number_of-table [] key number = refl
  number_of-table (e ∷ es) key number = grind (arith, common_steps, nat_tests, same key e.0, number_of-table es key number)

  pub set_rule-table : (es : List (RuleKey × RowValue)) (key : RuleKey) (flags number : ℕ)
      → rows_of (set_row eq es key flags number) ≡ set_rule (rows_of es) key flags number
  set_rule-table [] key flags number = refl
  set_rule-table (e ∷ es) key flags number = grind (arith, common_steps, nat_tests, same key e.0, set_rule-table es key flags number)

  pub clear_rule-table : (es : List (RuleKey × RowValue)) (key : RuleKey) (flags : ℕ) → has_flag eq es key flags ≡ true
      → rows_of (clear_row eq es key flags) ≡ clear_rule (rows_of es) key flags
  clear_rule-table [] key flags there = absurd (true≢false (sym there))
  clear_rule-table (e ∷ es) key flags there =
      grind (arith, common_steps, nat_tests, there, same key e.0, clear_rule-table es key flags)

  later_none : (x key : RuleKey) (es : List (RuleKey × RowValue)) → AllByRecursion (λ y. eq x y ≡ false) (keys_of es)
      → eq key x ≡ true → lookup (eq key) es ≡ None
  later_none x key [] all here = refl
  later_none x key (e ∷ es) all here =
      grind (arith, common_steps, all.0, here, same key x, same x e.0, same key e.0, apart x e.0 key, later_none x key es all.1 here)

  pub find-table : (es : List (RuleKey × RowValue)) (key : RuleKey) (flags : ℕ) → IsDistinct eq (keys_of es)
      → option_map (λ row. row.number) (find (answers key flags) (rows_of es)) ≡ answer_of flags (lookup (eq key) es)
  unfolding IsDistinct
  find-table [] key flags different = refl
  find-table (e ∷ es) key flags different =
      grind (arith, common_steps, nat_tests, same key e.0, later_none e.0 key es different.0, find-table es key flags different.1)

  pub has_rule-table : (es : List (RuleKey × RowValue)) (key : RuleKey) (flags : ℕ) → IsDistinct eq (keys_of es)
      → has_rule (rows_of es) key flags ≡ has_flag eq es key flags
  unfolding IsDistinct
  has_rule-table [] key flags different = refl
  has_rule-table (e ∷ es) key flags different =
      grind (arith, common_steps, nat_tests, same key e.0, later_none e.0 key es different.0, has_rule-table es key flags different.1)
