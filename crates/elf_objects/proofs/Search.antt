-- The least of a table's rows that breaks a rule, as a loop over the rows finds it.
use Rattle.std.proofs.Common.{◌≡◌, ℕ, zero, suc, ◌+◌, ◌<◌, ◌≤◌, Bool, true, false, cond, Option, Some, None, IfSome, List, [], ◌∷◌, ◌++◌, map, add-one, append_assoc, refl, sym, ap, ◌∙◌, arith, ⊎_elim}
use Rattle.std.proofs.lemmas.Bool.{cases_lt}
use Rattle.std.proofs.lemmas.List.{append-nil}
use Rattle.std.proofs.lemmas.List.FromFn.{map-range_with_len_more}
use Rattle.std.specs.List.{find, flat_map, range_with_len}
use Rattle.elf_objects.specs.Breaks.{Test, row_tests, earlier, first_place}

-- a place is the lesser of it and of one that isn't before it
earlier_first : (place : ℕ) (other : Option ℕ) → IfSome other (λ p. place ≤ p) → earlier (Some place) other ≡ Some place
earlier_first place None after = refl
earlier_first place (Some p) after = ap Some (omega arith)

pub earlier-none : (place : ℕ) (other : Option ℕ) → earlier (Some place) other ≡ None → ⊥
earlier-none place None none = cc
earlier-none place (Some p) none = cc

earlier_assoc : (a b c : Option ℕ) → earlier a (earlier b c) ≡ earlier (earlier a b) c
earlier_assoc None b c = refl
earlier_assoc (Some a) None c = refl
earlier_assoc (Some a) (Some b) None = refl
earlier_assoc (Some a) (Some b) (Some c) = ap Some (omega arith)

-- the least place of two lists of tests
pub first_place-append : (xs ys : List Test) → first_place (xs ++ ys) ≡ earlier (first_place xs) (first_place ys)
first_place-append [] ys = refl
first_place-append ((place, false) ∷ xs) ys = first_place-append xs ys
first_place-append ((place, true) ∷ xs) ys =
    ap (earlier (Some place)) (first_place-append xs ys) ∙ earlier_assoc (Some place) (first_place xs) (first_place ys)

-- the tests of the rows from one on
abbrev rows_from : (ℕ → ℕ) → (ℕ → Bool) → ℕ → ℕ → List Test
rows_from place fails a n = map (λ row. (place row, fails row)) (range_with_len a n)

bound_here : (b : Bool) (low here : ℕ) (rest : Option ℕ) → low ≤ here → IfSome rest (λ p. low ≤ p) → IfSome (cond b (earlier (Some here) rest) rest) (λ p. low ≤ p)
bound_here false low here rest h after = after
bound_here true low here None h after = h
bound_here true low here (Some p) h after = omega arith

no_break_here : (b : Bool) (here : ℕ) (rest : Option ℕ) → cond b (earlier (Some here) rest) rest ≡ None → (b ≡ false) × (rest ≡ None)
no_break_here false here rest none = (refl, none)
no_break_here true here rest none = absurd (earlier-none here rest none)

-- rows that stand one after another
module _ (place : ℕ → ℕ) (fails : ℕ → Bool) (rises : (i j : ℕ) → i ≤ j → place i ≤ place j) where
  none_before : (a n low : ℕ) → low ≤ a → IfSome (first_place (rows_from place fails a n)) (λ p. place low ≤ p)
  none_before a zero low h = tt
  none_before a (suc n) low h = bound_here (fails a) (place low) (place a) (first_place (rows_from place fails (a + 1) n)) (rises low a h) (none_before (a + 1) n low (omega arith))

  found : (a n k : ℕ) → a ≤ k → k < a + n → ((j : ℕ) → a ≤ j → j < k → fails j ≡ false) → fails k ≡ true → first_place (rows_from place fails a n) ≡ Some (place k)
  found a zero k low high passed here = absurd (omega arith)
  found a (suc n) k low high passed here =
      let rest = first_place (rows_from place fails (a + 1) n) in
      ⊎_elim
      (λ (later : a < k). ap (λ b. cond b (earlier (Some (place a)) rest) rest) (passed a (omega arith) later)
      ∙ found (a + 1) n k (omega arith) (omega arith) (λ j lo hi. passed j (omega arith) hi) here)
      (λ (now : k ≤ a). let e : k ≡ a = omega arith in
      ap (λ b. cond b (earlier (Some (place a)) rest) rest) (ap fails (sym e) ∙ here)
      ∙ earlier_first (place a) rest (none_before (a + 1) n a (omega arith)) ∙ ap (λ i. Some (place i)) (sym e))
      (cases_lt a k)

  absent : (a n : ℕ) → ((j : ℕ) → a ≤ j → j < a + n → fails j ≡ false) → first_place (rows_from place fails a n) ≡ None
  absent a zero passed = refl
  absent a (suc n) passed =
      let rest = first_place (rows_from place fails (a + 1) n) in
      ap (λ b. cond b (earlier (Some (place a)) rest) rest) (passed a (omega arith) (omega arith))
      ∙ absent (a + 1) n (λ j low high. passed j (omega arith) (omega arith))

  passes : (a n k : ℕ) → first_place (rows_from place fails a n) ≡ None → a ≤ k → k < a + n → fails k ≡ false
  passes a zero k none low high = absurd (omega arith)
  passes a (suc n) k none low high =
      let here = no_break_here (fails a) (place a) (first_place (rows_from place fails (a + 1) n)) none in
      ⊎_elim
      (λ (later : a < k). passes (a + 1) n k here.1 (omega arith) (omega arith))
      (λ (now : k ≤ a). let e : k ≡ a = omega arith in ap fails e ∙ here.0)
      (cases_lt a k)

  -- what a loop over the rows knows as it returns
  pub first_row : (count k : ℕ) → ((j : ℕ) → j < k → fails j ≡ false) → k < count → fails k ≡ true → first_place (row_tests place fails count) ≡ Some (place k)
  first_row count k passed known here = found 0 count k (omega arith) (omega arith) (λ j _ high. passed j high) here

  pub no_row : (count : ℕ) → ((j : ℕ) → j < count → fails j ≡ false) → first_place (row_tests place fails count) ≡ None
  no_row count passed = absent 0 count (λ j _ high. passed j (omega arith))

  -- where no row breaks the rule
  pub row_passes : (count k : ℕ) → first_place (row_tests place fails count) ≡ None → k < count → fails k ≡ false
  row_passes count k none known = passes 0 count k none (omega arith) (omega arith)

-- the first number that passes a test
found_from : (test : ℕ → Bool) (a n k : ℕ) → a ≤ k → k < a + n → ((j : ℕ) → a ≤ j → j < k → test j ≡ false) → test k ≡ true → find test (range_with_len a n) ≡ Some k
found_from test a zero k low high fails here = absurd (omega arith)
found_from test a (suc n) k low high fails here = ⊎_elim
    (λ (later : a < k). ap (λ b. cond b (Some a) (find test (range_with_len (a + 1) n))) (fails a (omega arith) later)
    ∙ found_from test (a + 1) n k (omega arith) (omega arith) (λ j lo hi. fails j (omega arith) hi) here)
    (λ (now : k ≤ a). let e : k ≡ a = omega arith in
    ap (λ b. cond b (Some a) (find test (range_with_len (a + 1) n))) (ap test (sym e) ∙ here) ∙ ap Some (sym e))
    (cases_lt a k)

absent_from : (test : ℕ → Bool) (a n : ℕ) → ((j : ℕ) → a ≤ j → j < a + n → test j ≡ false) → find test (range_with_len a n) ≡ None
absent_from test a zero fails = refl
absent_from test a (suc n) fails =
    ap (λ b. cond b (Some a) (find test (range_with_len (a + 1) n))) (fails a (omega arith) (omega arith))
    ∙ absent_from test (a + 1) n (λ j low high. fails j (omega arith) (omega arith))

pub find_some : (test : ℕ → Bool) (n k : ℕ) → ((j : ℕ) → j < k → test j ≡ false) → k < n → test k ≡ true → find test (range_with_len 0 n) ≡ Some k
find_some test n k fails known here = found_from test 0 n k (omega arith) (omega arith) (λ j _ high. fails j high) here

pub find_none : (test : ℕ → Bool) (n : ℕ) → ((j : ℕ) → j < n → test j ≡ false) → find test (range_with_len 0 n) ≡ None
find_none test n fails = absent_from test 0 n (λ j _ high. fails j (omega arith))

-- lists of numbers, after one number more
flat_map_from : {X : Type 0} (f : ℕ → List X) (a n : ℕ) → flat_map f (range_with_len a (suc n)) ≡ flat_map f (range_with_len a n) ++ f (a + n)
flat_map_from f a zero = append-nil (f a) ∙ ap f (omega arith)
flat_map_from f a (suc n) = ap (λ ys. f a ++ ys) (flat_map_from f (a + 1) n) ∙ sym (append_assoc (f a) _ _) ∙ ap (λ i. (f a ++ flat_map f (range_with_len (a + 1) n)) ++ f i) (omega arith)

pub flat_map_more : {X : Type 0} (f : ℕ → List X) (n : ℕ) → flat_map f (range_with_len 0 (n + 1)) ≡ flat_map f (range_with_len 0 n) ++ f n
flat_map_more f n = rw add-one (flat_map_from f 0 n ∙ ap (λ i. flat_map f (range_with_len 0 n) ++ f i) (omega arith))

pub map_more : {X : Type 0} (f : ℕ → X) (n : ℕ) (xs ys : List X) (x : X) → xs ≡ map f (range_with_len 0 n) → ys ≡ xs ++ x ∷ [] → x ≡ f n → ys ≡ map f (range_with_len 0 (n + 1))
map_more f n xs ys x so_far pushed is =
    pushed ∙ ap (λ zs. zs ++ x ∷ []) so_far ∙ ap (λ z. map f (range_with_len 0 n) ++ z ∷ []) is ∙ sym (map-range_with_len_more f 0 n n (omega arith))
