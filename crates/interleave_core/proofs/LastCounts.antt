-- The last counts of processors, looked up by phase and number.
use Rattle.std.proofs.Common.{◌≡◌, ℕ, ◌+◌, ◌-◌, zero, suc, List, [], ◌∷◌, ◌++◌, Option, Some, None, unwrap_or, length, take, drop, get_or, slice_get, refl, ap, ◌∙◌, arith}
use Rattle.std.proofs.lemmas.List.Sums.{fold-append}
use Rattle.interleave_core.specs.Sound.{last_counts}
use Rattle.xdp_state.specs.Legal.{first_last, last_of, lasts_of, other_lasts}

first-last : (lasts : List ℕ) → first_last lasts ≡ get_or lasts 0 0
first-last [] = refl
first-last (last ∷ lasts) = refl

other-last : (lasts : List ℕ) (p : ℕ) → get_or (other_lasts lasts) p 0 ≡ get_or lasts (suc p) 0
other-last [] p = refl
other-last (last ∷ lasts) p = refl

pub lasts_of-at : (lasts : List ℕ) (counts : List (List ℕ)) (p : ℕ) → get_or (lasts_of lasts counts) p 0 ≡ last_of (get_or lasts p 0) (get_or counts p [])
lasts_of-at lasts [] p = refl
lasts_of-at lasts (c ∷ cs) zero = ap (λ last. last_of last c) (first-last lasts)
lasts_of-at lasts (c ∷ cs) (suc p) =
    lasts_of-at (other_lasts lasts) cs p ∙ ap (λ last. last_of last (get_or cs p [])) (other-last lasts p)

take-suc : {A : Type 0} (xs : List A) (i : ℕ) (x : A) → slice_get xs i ≡ Some x → take (suc i) xs ≡ take i xs ++ x ∷ []
take-suc [] i x is = absurd cc
take-suc (y ∷ xs) zero x is = let same : y ≡ x = cc in ap (λ z. z ∷ []) same
take-suc (y ∷ xs) (suc i) x is = ap (λ ys. y ∷ ys) (take-suc xs i x is)

drop-suc : {A : Type 0} (xs : List A) (i : ℕ) (x : A) → slice_get xs i ≡ Some x → drop i xs ≡ x ∷ drop (suc i) xs
drop-suc [] i x is = absurd cc
drop-suc (y ∷ xs) zero x is = let same : y ≡ x = cc in ap (λ z. z ∷ xs) same
drop-suc (y ∷ xs) (suc i) x is = drop-suc xs i x is

pub take-get : {A : Type 0} (xs : List A) (i : ℕ) (x : A) → slice_get xs i ≡ Some x → take (i + 1) xs ≡ take i xs ++ x ∷ []
take-get xs i x is = let next : i + 1 ≡ suc i = omega arith in ap (λ n. take n xs) next ∙ take-suc xs i x is

pub drop-get : {A : Type 0} (xs : List A) (i : ℕ) (x : A) → slice_get xs i ≡ Some x → drop i xs ≡ x ∷ drop (i + 1) xs
drop-get xs i x is = let next : suc i ≡ i + 1 = omega arith in drop-suc xs i x is ∙ ap (λ n. x ∷ drop n xs) next

-- with one phase more
pub last_counts-next : (choices : List (List (List ℕ))) (i : ℕ) (counts : List (List ℕ)) → slice_get choices i ≡ Some counts → last_counts (take (i + 1) choices) ≡ lasts_of (last_counts (take i choices)) counts
last_counts-next choices i counts is = ap last_counts (take-get choices i counts is) ∙ fold-append lasts_of [] (take i choices) (counts ∷ [])

pub last_counts-at : (choices : List (List (List ℕ))) (i p : ℕ) (counts : List (List ℕ)) → slice_get choices i ≡ Some counts → get_or (last_counts (take (i + 1) choices)) p 0 ≡ last_of (get_or (last_counts (take i choices)) p 0) (get_or counts p [])
last_counts-at choices i p counts is = ap (λ lasts. get_or lasts p 0) (last_counts-next choices i counts is) ∙ lasts_of-at (last_counts (take i choices)) counts p

pub first_last-drop : (lasts : List ℕ) (p : ℕ) → first_last (drop p lasts) ≡ get_or lasts p 0
first_last-drop lasts zero = first-last lasts
first_last-drop [] (suc p) = refl
first_last-drop (last ∷ lasts) (suc p) = first_last-drop lasts p

other_lasts-suc : (lasts : List ℕ) (p : ℕ) → other_lasts (drop p lasts) ≡ drop (suc p) lasts
other_lasts-suc [] zero = refl
other_lasts-suc (last ∷ lasts) zero = refl
other_lasts-suc [] (suc p) = refl
other_lasts-suc (last ∷ lasts) (suc p) = other_lasts-suc lasts p

pub other_lasts-drop : (lasts : List ℕ) (p : ℕ) → other_lasts (drop p lasts) ≡ drop (p + 1) lasts
other_lasts-drop lasts p = let next : suc p ≡ p + 1 = omega arith in other_lasts-suc lasts p ∙ ap (λ n. drop n lasts) next

last-get : (last c : ℕ) (counts : List ℕ) → slice_get (c ∷ counts) (length counts) ≡ Some (last_of last (c ∷ counts))
last-get last c [] = refl
last-get last c (d ∷ counts) = last-get c d counts

pub last_of-get : (last : ℕ) (counts : List ℕ) → unwrap_or (slice_get counts (length counts - 1)) last ≡ last_of last counts
last_of-get last [] = refl
last_of-get last (c ∷ counts) =
    let place : length (c ∷ counts) - 1 ≡ length counts = omega arith in
    ap (λ i. unwrap_or (slice_get (c ∷ counts) i) last) place ∙ ap (λ o. unwrap_or o last) (last-get last c counts)

pub unwrap-past : (r : Option ℕ) (d : ℕ) → ((x : ℕ) → r ≡ Some x → ⊥) → unwrap_or r d ≡ d
unwrap-past None d other = refl
unwrap-past (Some x) d other = absurd (other x refl)
