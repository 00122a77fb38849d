-- The first place of a byte that passes a test.
use Rattle.std.proofs.Common.{◌≡◌, ℕ, ◌≤◌, nat_lt, Bool, true, false, cond, List, length, Option, Some, None, refl, sym, ◌∙◌, ap, inl, inr, arith}
use Rattle.std.specs.Prelude.{position}
use Rattle.std.specs.List.{position_or_len}
use Rattle.std.proofs.lemmas.Bool.{false≢true, cases_lt}
use Rattle.std.proofs.lemmas.Bool.Decides.{nat_tests}
use Rattle.std.proofs.lemmas.List.Quantifiers.{position-Some}
use Rattle.std.proofs.lemmas.List.Sums.{fails_before_first}
use Rattle.memchr.specs.Find.{IsFirstByte}

none-past : (place size : ℕ) → cond (nat_lt place size) (Some place) None ≡ None → size ≤ place
none-past place size none = elim (cases_lt place size) [ inl below ↦ absurd (found (nat_lt place size) (grind (arith, nat_tests, below)) none) | inr past ↦ past ]
  where
    found : (b : Bool) → b ≡ true → cond b (Some place) None ≡ None → ⊥
    found true is none = cc
    found false is none = false≢true is

agree : (test : ℕ → Bool) (bytes : List ℕ) (found wanted : Option ℕ) → IsFirstByte test bytes found → position test bytes ≡ wanted → found ≡ wanted
agree test bytes None None first is = refl
agree test bytes None (Some place) nowhere is =
    let there = position-Some test bytes place 0 is in absurd (nowhere place (omega arith) there.0 there.1)
agree test bytes (Some place) None first is =
    let past : length bytes ≤ position_or_len test bytes = none-past _ _ is in
    let within = first.0.high in
    absurd (false≢true (sym (fails_before_first test bytes place 0 (omega (arith, past, within))) ∙ first.1))
agree test bytes (Some place) (Some other) first is =
    let there = position-Some test bytes other 0 is in
    elim (cases_lt place other) [
      | inl below ↦ absurd (false≢true (sym (there.2 place below) ∙ first.1))
      | inr past ↦ elim (cases_lt other place) [ inl before ↦ absurd (first.0.before other (omega arith) before there.1) | inr same ↦ ap Some (omega (arith, past, same)) ]
    ]

pub first_place : (test : ℕ → Bool) (bytes : List ℕ) (found : Option ℕ) → IsFirstByte test bytes found → found ≡ position test bytes
first_place test bytes found first = agree test bytes found (position test bytes) first refl
