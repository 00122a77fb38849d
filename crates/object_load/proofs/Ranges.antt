-- Numbers from 0 on, as loops go through them.
use Rattle.std.proofs.Common.{◌≡◌, ℕ, zero, suc, ◌+◌, ◌<◌, Bool, true, false, cond, [], ◌∷◌, ◌++◌, add-one, zero-add, ap, ◌∙◌, arith}
use Rattle.std.specs.List.{filter, list_any, range_with_len}
use Rattle.std.proofs.lemmas.List.{append-nil}
use Rattle.std.proofs.lemmas.List.Elements.{filter-append}
use Rattle.std.proofs.lemmas.List.Folds.{list_any_at, list_any_none}
use Rattle.std.proofs.lemmas.List.FromFn.{get_or-range_with_len, length-range_with_len}

-- some number passes a test, or none
pub any_found : (test : ℕ → Bool) (n k : ℕ) → k < n → test k ≡ true → list_any test (range_with_len 0 n) ≡ true
any_found test n k known here =
    list_any_at test (range_with_len 0 n) k 0 (omega (arith, length-range_with_len 0 n)) (ap test (get_or-range_with_len 0 n k 0 known ∙ zero-add k) ∙ here)

pub any_absent : (test : ℕ → Bool) (n : ℕ) → ((k : ℕ) → k < n → test k ≡ false) → list_any test (range_with_len 0 n) ≡ false
any_absent test n fails =
    list_any_none test (range_with_len 0 n) (λ k d known.
    let below : k < n = omega (arith, length-range_with_len 0 n) in
    ap test (get_or-range_with_len 0 n k d below ∙ zero-add k) ∙ fails k below)

range_from : (a n : ℕ) → range_with_len a (suc n) ≡ range_with_len a n ++ (a + n) ∷ []
range_from a zero = ap (λ i. i ∷ []) (omega arith)
range_from a (suc n) = ap (λ xs. a ∷ xs) (range_from (a + 1) n ∙ ap (λ i. range_with_len (a + 1) n ++ i ∷ []) (omega arith))

range_more : (n : ℕ) → range_with_len 0 (n + 1) ≡ range_with_len 0 n ++ n ∷ []
range_more n = rw add-one (range_from 0 n ∙ ap (λ i. range_with_len 0 n ++ i ∷ []) (zero-add n))

-- the numbers that pass a test
pub filter_passed : (test : ℕ → Bool) (n : ℕ) → test n ≡ true → filter test (range_with_len 0 (n + 1)) ≡ filter test (range_with_len 0 n) ++ n ∷ []
filter_passed test n here =
    ap (filter test) (range_more n) ∙ filter-append test (range_with_len 0 n) (n ∷ []) ∙ ap (λ b. filter test (range_with_len 0 n) ++ cond b (n ∷ []) []) here

pub filter_failed : (test : ℕ → Bool) (n : ℕ) → test n ≡ false → filter test (range_with_len 0 (n + 1)) ≡ filter test (range_with_len 0 n)
filter_failed test n here =
    ap (filter test) (range_more n) ∙ filter-append test (range_with_len 0 n) (n ∷ []) ∙ ap (λ b. filter test (range_with_len 0 n) ++ cond b (n ∷ []) []) here ∙ append-nil (filter test (range_with_len 0 n))
