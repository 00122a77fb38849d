-- Lists that are paired.
use Rattle.std.proofs.Common.{◌≡◌, ℕ, zero, suc, List, [], ◌∷◌, ◌++◌, length, take, slice_get, Some, refl, ap, subst}
use Rattle.run_config.specs.Values.{Paired, none, more}

-- one more of each
pub paired-push : {A B : Type 0} {R : A → B → Type 0} {left : List A} {right : List B} {a : A} {b : B} → Paired R left right → R a b → Paired R (left ++ a ∷ []) (right ++ b ∷ [])
paired-push none r = more r none
paired-push (more s rest) r = more s (paired-push rest r)

-- what stands at a place has its partner there
pub paired-at : {A B : Type 0} {R : A → B → Type 0} {left : List A} {right : List B} {a : A} (place : ℕ) → Paired R left right → slice_get left place ≡ Some a → (b : B) × R a b × (slice_get right place ≡ Some b)
paired-at place none h = cc
paired-at {R = R} {a = a} zero (more {a = x} {b = b} r rest) h = let same : x ≡ a = cc in (b, subst (λ one. R one b) same r, refl)
paired-at (suc place) (more r rest) h = paired-at place rest h

-- where each has one partner, a list has one
pub paired-unique : {A B : Type 0} {R : A → B → Type 0} {left : List A} {one other : List B} → ((a : A) (x y : B) → R a x → R a y → x ≡ y) → Paired R left one → Paired R left other → one ≡ other
paired-unique single none none = refl
paired-unique single (more {a = a} {b = x} r rest) (more {b = y} s others) = let head = single a x y r s in let tail = paired-unique single rest others in cc

pub paired-length : {A B : Type 0} {R : A → B → Type 0} {left : List A} {right : List B} → Paired R left right → length left ≡ length right
paired-length none = refl
paired-length (more r rest) = ap suc (paired-length rest)

-- the fronts of paired lists
pub paired-take : {A B : Type 0} {R : A → B → Type 0} {left : List A} {right : List B} (count : ℕ) → Paired R left right → Paired R (take count left) (take count right)
paired-take zero p = none
paired-take (suc count) none = none
paired-take (suc count) (more r rest) = more r (paired-take count rest)
