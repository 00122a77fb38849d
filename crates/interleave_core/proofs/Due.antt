-- What is due with so many publications, of numbers that never fall.
use Rattle.std.proofs.Common.{◌≡◌, ℕ, ◌+◌, ◌<◌, ◌≤◌, suc, true, false, nat_le, List, [], ◌∷◌, ◌++◌, length, replicate, drop, refl, sym, ap, subst, ◌∙◌, arith, inl, inr}
use Rattle.std.proofs.lemmas.Bool.{cases_lt, le-leb, lt-leb}
use Rattle.interleave_core.specs.Reached.{AreNeeds}
use Rattle.interleave_core.specs.Schedule.{due, left_of}
use Rattle.xdp_state.specs.Legal.{AreLegalCounts}

due-next : (n x : ℕ) (xs : List ℕ) → x ≤ n → due n (x ∷ xs) ≡ suc (due n xs)
due-next n x xs below = let test : nat_le x n ≡ true = le-leb x n below in rw test refl

due-none : (n x : ℕ) (xs : List ℕ) → n < x → due n (x ∷ xs) ≡ 0
due-none n x xs above = let test : nat_le x n ≡ false = lt-leb x n above in rw test refl

left-next : (n x : ℕ) (xs : List ℕ) → x ≤ n → left_of n (x ∷ xs) ≡ left_of n xs
left-next n x xs below = ap (λ k. drop k (x ∷ xs)) (due-next n x xs below)

left-none : (n x : ℕ) (xs : List ℕ) → n < x → left_of n (x ∷ xs) ≡ x ∷ xs
left-none n x xs above = ap (λ k. drop k (x ∷ xs)) (due-none n x xs above)

-- there is a packet for each count that is due: its need is due, too
pub enough : (n last : ℕ) (queue needs counts : List ℕ) → AreLegalCounts n last (queue ++ needs) counts → AreNeeds n last needs → due n counts ≤ length queue + due n needs
enough n last queue needs [] legal are = omega arith
enough n last [] [] (c ∷ counts) legal are = absurd legal
enough n last [] (m ∷ ms) (c ∷ counts) legal are =
    elim (cases_lt n c) [
      | inl above ↦ omega (arith, due-none n c counts above)
      | inr below ↦
          let same : c ≡ n = omega (arith, legal.0, below) in
          let first : m ≡ n = omega (arith, legal.1, are.0, below) in
          let under : m ≤ n = omega arith in
          let rest = enough n last [] ms counts (subst (λ k. AreLegalCounts k last ms counts) same legal.3) (subst (λ k. AreNeeds k last ms) first are.2) in
          omega (arith, due-next n c counts below, due-next n m ms under, rest)
    ]
enough n last (q ∷ queue) needs (c ∷ counts) legal are =
    elim (cases_lt n c) [
      | inl above ↦ omega (arith, due-none n c counts above)
      | inr below ↦
          let same : c ≡ n = omega (arith, legal.0, below) in
          let rest = enough n last queue needs counts (subst (λ k. AreLegalCounts k last (queue ++ needs) counts) same legal.3) are in
          omega (arith, due-next n c counts below, rest)
    ]

-- what is due is the number itself, some times
pub due-split : (n last : ℕ) (xs : List ℕ) → AreNeeds n last xs → xs ≡ replicate (due n xs) n ++ left_of n xs
due-split n last [] are = refl
due-split n last (x ∷ xs) are =
    elim (cases_lt n x) [
      | inl above ↦ ap (λ k. replicate k n ++ drop k (x ∷ xs)) (sym (due-none n x xs above))
      | inr below ↦
          let same : x ≡ n = omega (arith, are.0, below) in
          let rest = due-split n last xs (subst (λ k. AreNeeds k last xs) same are.2) in
          ap (λ y. y ∷ xs) same ∙ ap (λ ys. n ∷ ys) rest ∙ ap (λ k. replicate k n ++ drop k (x ∷ xs)) (sym (due-next n x xs below))
    ]

pub needs-of_legal : (n last : ℕ) (zs counts : List ℕ) → AreLegalCounts n last zs counts → AreNeeds n last counts
needs-of_legal n last zs [] legal = tt
needs-of_legal n last [] (c ∷ counts) legal = absurd legal
needs-of_legal n last (z ∷ zs) (c ∷ counts) legal = (legal.0, legal.2, needs-of_legal c last zs counts legal.3)

pub needs-later : (n last : ℕ) (xs : List ℕ) → AreNeeds n last xs → AreNeeds (n + 1) last (left_of n xs)
needs-later n last [] are = tt
needs-later n last (x ∷ xs) are =
    elim (cases_lt n x) [
      | inl above ↦
          let next : n + 1 ≤ x = omega arith in
          subst (λ ys. AreNeeds (n + 1) last ys) (sym (left-none n x xs above)) (next, are.1, are.2)
      | inr below ↦
          let same : x ≡ n = omega (arith, are.0, below) in
          subst (λ ys. AreNeeds (n + 1) last ys) (sym (left-next n x xs below)) (needs-later n last xs (subst (λ k. AreNeeds k last xs) same are.2))
    ]

pub legal-later : (n last : ℕ) (zs counts : List ℕ) → AreLegalCounts n last zs counts → AreLegalCounts (n + 1) last (drop (due n counts) zs) (left_of n counts)
legal-later n last [] [] legal = tt
legal-later n last (z ∷ zs) [] legal = absurd legal
legal-later n last [] (c ∷ counts) legal = absurd legal
legal-later n last (z ∷ zs) (c ∷ counts) legal =
    elim (cases_lt n c) [
      | inl above ↦
          let next : n + 1 ≤ c = omega arith in
          subst (λ k. AreLegalCounts (n + 1) last (drop k (z ∷ zs)) (drop k (c ∷ counts))) (sym (due-none n c counts above)) (next, legal.1, legal.2, legal.3)
      | inr below ↦
          let same : c ≡ n = omega (arith, legal.0, below) in
          subst (λ k. AreLegalCounts (n + 1) last (drop k (z ∷ zs)) (drop k (c ∷ counts))) (sym (due-next n c counts below)) (legal-later n last zs counts (subst (λ k. AreLegalCounts k last zs counts) same legal.3))
    ]

-- a processor that has nothing yet may count from the phase's first number
pub legal-first : (first last before : ℕ) (needs counts : List ℕ) → AreNeeds first last needs → AreLegalCounts before last needs counts → AreLegalCounts first last needs counts
legal-first first last before [] [] are legal = tt
legal-first first last before [] (c ∷ counts) are legal = legal
legal-first first last before (m ∷ ms) [] are legal = legal
legal-first first last before (m ∷ ms) (c ∷ counts) are legal =
    let low : first ≤ c = omega (arith, are.0, legal.1) in
    (low, legal.1, legal.2, legal.3)
