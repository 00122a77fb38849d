-- The traffic of one processor among all.
use Rattle.std.proofs.Common.{◌≡◌, ℕ, ◌<◌, zero, suc, List, [], ◌∷◌, ◌++◌, length, take, drop, get_or, slice_set, Result, OnOk, length-append, refl, ap, ◌∙◌, arith}
use Rattle.interleave_core.proofs.Answered.{on_ok-then}
use Rattle.interleave_core.specs.Moment.{changed_at, waits_at}
use Rattle.interleave_core.specs.Traffic.{Traffic, waits, with_count}
use Rattle.xdp_state.specs.declared.packet.HandIn.{HandIn}

pub changed_at-set : (p : ℕ) (f : Traffic → Traffic) (ts : List Traffic) (t : Traffic) → p < length ts → t ≡ get_or ts p t → slice_set ts p (f t) ≡ changed_at p f ts
changed_at-set p f [] t below is = absurd (omega arith)
changed_at-set zero f (x ∷ xs) t below is = ap (λ y. f y ∷ xs) is
changed_at-set (suc p) f (x ∷ xs) t below is = ap (λ ys. x ∷ ys) (changed_at-set p f xs t (omega arith) is)

pub waits_at-get : (p : ℕ) (ts : List Traffic) (t : Traffic) → p < length ts → t ≡ get_or ts p t → waits t ≡ waits_at p ts
waits_at-get p [] t below is = absurd (omega arith)
waits_at-get zero (x ∷ xs) t below is = ap waits is
waits_at-get (suc p) (x ∷ xs) t below is = waits_at-get p xs t (omega arith) is

pub length-changed_at : (p : ℕ) (f : Traffic → Traffic) (ts : List Traffic) → length (changed_at p f ts) ≡ length ts
length-changed_at p f [] = refl
length-changed_at zero f (x ∷ xs) = refl
length-changed_at (suc p) f (x ∷ xs) = ap suc (length-changed_at p f xs)

take-next : {A : Type 0} (n : ℕ) (xs : List A) → take (suc n) xs ≡ take n xs ++ take 1 (drop n xs)
take-next zero [] = refl
take-next zero (x ∷ xs) = refl
take-next (suc n) [] = refl
take-next (suc n) (x ∷ xs) = ap (λ ys. x ∷ ys) (take-next n xs)

drop-next : {A : Type 0} (n : ℕ) (xs : List A) → drop (suc n) xs ≡ drop 1 (drop n xs)
drop-next zero xs = refl
drop-next (suc n) [] = refl
drop-next (suc n) (x ∷ xs) = drop-next n xs

-- one count more than before
pub counted-more : (hs : List HandIn) (counts more : List ℕ) (count : ℕ) → more ≡ counts ++ count ∷ [] → record { handed = hs; carried = take (length more) hs; counts = more; queue = drop (length more) hs } ≡ with_count count (record { handed = hs; carried = take (length counts) hs; counts = counts; queue = drop (length counts) hs })
counted-more hs counts more count is =
    let many : length more ≡ suc (length counts) = ap length is ∙ (length-append counts (count ∷ []) ∙ omega arith) in
    let carried : take (length more) hs ≡ take (length counts) hs ++ take 1 (drop (length counts) hs) = ap (λ n. take n hs) many ∙ take-next (length counts) hs in
    let queue : drop (length more) hs ≡ drop 1 (drop (length counts) hs) = ap (λ n. drop n hs) many ∙ drop-next (length counts) hs in
    rw (carried, queue, is) refl

-- a processor that was changed, where the change came about
pub changed-on_ok : {T E : Type 0} (r : Result T E) (p : ℕ) (f : Traffic → Traffic) (ts : List Traffic) (t new : Traffic) → p < length ts → t ≡ get_or ts p t → OnOk r (new ≡ f t) → OnOk r (slice_set ts p new ≡ changed_at p f ts)
changed-on_ok r p f ts t new below is changed =
    on_ok-then r (new ≡ f t) (slice_set ts p new ≡ changed_at p f ts) (λ e. ap (λ x. slice_set ts p x) e ∙ changed_at-set p f ts t below is) changed
