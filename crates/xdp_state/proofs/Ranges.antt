-- A test of the numbers of a range, one after another.
use Rattle.std.proofs.Common.{◌≡◌, ℕ, zero, suc, ◌+◌, ◌<◌, Bool, true, false, refl, inl, inr, subst, add-one, arith}
use Rattle.std.specs.List.{list_any, range_with_len}
use Rattle.std.proofs.lemmas.Bool.{cases_Bool, or_right}

found_from : (p : ℕ → Bool) (first n k : ℕ) → k < n → p (first + k) ≡ true → list_any p (range_with_len first n) ≡ true
found_from p first zero k below here = absurd (omega arith)
found_from p first (suc n) zero below here =
    let is : first + 0 ≡ first = omega arith in
    let now : p first ≡ true = subst (λ i. p i ≡ true) is here in
    rw now refl
found_from p first (suc n) (suc k) below here =
    let next : first + suc k ≡ first + 1 + k = omega arith in
    let later : list_any p (range_with_len (first + 1) n) ≡ true = found_from p (first + 1) n k (omega arith) (subst (λ i. p i ≡ true) next here) in
    or_right (p first) (list_any p (range_with_len (first + 1) n)) later

pub any_found : (p : ℕ → Bool) (n k : ℕ) → k < n → p k ≡ true → list_any p (range_with_len 0 n) ≡ true
any_found p n k below here =
    let is : k ≡ 0 + k = omega arith in
    found_from p 0 n k below (subst (λ i. p i ≡ true) is here)

more_from : (p : ℕ → Bool) (first n : ℕ) → list_any p (range_with_len first n) ≡ false → p (first + n) ≡ false → list_any p (range_with_len first (suc n)) ≡ false
more_from p first zero none here =
    let is : first + 0 ≡ first = omega arith in
    let now : p first ≡ false = subst (λ i. p i ≡ false) is here in
    rw now refl
more_from p first (suc n) none here =
    let next : first + suc n ≡ first + 1 + n = omega arith in
    elim (cases_Bool (p first)) [
      | inl h ↦ absurd (let some = rw h at none in cc)
      | inr h ↦ rw h (more_from p (first + 1) n (rw h at none) (subst (λ i. p i ≡ false) next here))
    ]

pub any_more : (p : ℕ → Bool) (k : ℕ) → list_any p (range_with_len 0 k) ≡ false → p k ≡ false → list_any p (range_with_len 0 (k + 1)) ≡ false
any_more p k none here =
    let is : k ≡ 0 + k = omega arith in
    rw add-one (more_from p 0 k none (subst (λ i. p i ≡ false) is here))
