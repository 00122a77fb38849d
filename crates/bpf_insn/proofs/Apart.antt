-- Rows whose opcodes ascend, and what a search among them finds.
use Rattle.std.proofs.Common.{◌≡◌, ◌<◌, ◌≤◌, ◌+◌, ◌⊎◌, ℕ, zero, suc, Bool, true, false, List, [], ◌∷◌, ◌↔◌, length, get_or, refl, sym, ◌∙◌, ap, subst, inl, inr, arith, add-one, nat_cmp}
use Rattle.std.specs.Prelude.{◌&&◌, AllPairs, Contains, nat_lt, IsTrue}
use Rattle.std.specs.declared.cmp.Ordering.TheVariants.{Less, Equal, Greater}
use Rattle.std.specs.List.{IsAllAdjacentAnswer, HoldsAt}
use Rattle.std.specs.List.Sorted.{IsNonDecreasingBy, IsPartitionPoint}
use Rattle.std.specs.Ordering.{ordering_index}
use Rattle.std.proofs.lemmas.Bool.{cases_lt}
use Rattle.std.proofs.lemmas.Bool.Decides.{nat_tests}
use Rattle.std.proofs.lemmas.List.{get_or_default}
use Rattle.bpf_insn.specs.declared.table.Form.{Form}
use Rattle.bpf_insn.specs.Form.{half_form, Takes}
use Rattle.bpf_insn.specs.Table.{AreApart}

-- the opcode of a row is below that of the next
abbrev pub Rises : List Form → Type 0
Rises rows = (k : ℕ) (d : Form) → suc k < length rows → (get_or rows k d).opcode < (get_or rows (suc k) d).opcode

-- the same as a test
abbrev pub rises : List Form → Bool
rises [] = true
rises (a ∷ []) = true
rises (a ∷ b ∷ rows) = nat_lt a.opcode b.opcode && rises (b ∷ rows)

first_rises : (a b : ℕ) (more : Bool) → (nat_lt a b && more) ≡ true → (a < b) × (more ≡ true)
first_rises a b more test = (grind (arith, nat_tests), grind (arith, nat_tests))

Rises-from_test : (rows : List Form) → rises rows ≡ true → Rises rows
Rises-from_test [] test k d within = absurd (omega arith)
Rises-from_test (a ∷ []) test k d within = absurd (omega arith)
Rises-from_test (a ∷ b ∷ rows) test zero d within = (first_rises a.opcode b.opcode (rises (b ∷ rows)) test).0
Rises-from_test (a ∷ b ∷ rows) test (suc k) d within =
    Rises-from_test (b ∷ rows) (first_rises a.opcode b.opcode (rises (b ∷ rows)) test).1 k d (omega arith)

-- then it is below that of each later row
pairs : (rows : List Form) → Rises rows → AllPairs (λ a b. a.opcode < b.opcode) rows
pairs rows rise i zero d before within = absurd (omega arith)
pairs rows rise i (suc j) d before within = go (pairs rows rise i j d) (rise j d within) (cases_lt i j) where
  go : (i < j → j < length rows → (get_or rows i d).opcode < (get_or rows j d).opcode) → (get_or rows j d).opcode < (get_or rows (suc j) d).opcode → (i < j) ⊎ (j ≤ i) → (get_or rows i d).opcode < (get_or rows (suc j) d).opcode
  go far last (inl below) = let near = far below (omega arith) in omega arith
  go far last (inr same) = let e : j ≡ i = omega arith in subst (λ k. (get_or rows k d).opcode < (get_or rows (suc j) d).opcode) e last

takes_same : (a b : Form) (bytes : List ℕ) → Takes a bytes → Takes b bytes → a.opcode ≡ b.opcode
takes_same a b bytes s t = sym s.first.opcode ∙ t.first.opcode

AreApart-from_rises : (rows : List Form) → Rises rows → AreApart rows
AreApart-from_rises rows rise = record {
  ascending = pairs rows rise;
  apart = λ i j d before within bytes s t.
      let less = pairs rows rise i j d before within in
      let same = takes_same _ _ bytes s t in
      omega arith;
}

pub apart_from_test : (rows : List Form) → rises rows ≡ true → AreApart rows
apart_from_test rows test = AreApart-from_rises rows (Rises-from_test rows test)

-- what a test of each row and the next says
pub apart_answer : (rows : List Form) (r : Bool) → IsAllAdjacentAnswer (λ a b less. less ≡ nat_lt a.opcode b.opcode) rows r → IsTrue r ↔ AreApart rows
apart_answer rows true h =
    ((λ _. AreApart-from_rises rows (λ k d within. let e = rw add-one at (h k d (omega arith)) in grind (arith, nat_tests))), λ _. refl)
apart_answer rows false h =
    ((λ no. cc), λ a. let less = a.ascending h.0 (h.0 + 1) half_form (omega arith) h.1 in let not_less = h.2 half_form in absurd (grind (arith, nat_tests)))

-- Seen from a number, the rows rise too, as a binary search asks.
rank : (m n x : ℕ) → m ≤ n → ordering_index (nat_cmp m x) ≤ ordering_index (nat_cmp n x)
rank m n x h = grind (arith, nat_tests)

at_most : (rows : List Form) → AreApart rows → (i j : ℕ) (d : Form) → (i < j) ⊎ (j ≤ i) → i ≤ j → j < length rows → (get_or rows i d).opcode ≤ (get_or rows j d).opcode
at_most rows a i j d (inl less) h within = let below = a.ascending i j d less within in omega arith
at_most rows a i j d (inr same) h within = let e : i ≡ j = omega arith in let f = ap (λ k. (get_or rows k d).opcode) e in omega arith

pub searchable : (rows : List Form) (n : ℕ) → AreApart rows → IsNonDecreasingBy (λ row. ordering_index (nat_cmp row.opcode n)) rows
searchable rows n a i j d h within = rank _ _ n (at_most rows a i j d (cases_lt i j) h within)

-- a row is the only one of its opcode
same_place : (rows : List Form) → AreApart rows → (i j : ℕ) (d : Form) → i < length rows → j < length rows → (get_or rows i d).opcode ≡ (get_or rows j d).opcode → i ≡ j
same_place rows a i j d in_i in_j same =
    elim (cases_lt i j) [
      | inl less ↦ (let below = a.ascending i j d less in_j in absurd (omega arith))
      | inr no_less ↦ elim (cases_lt j i) [
        | inl more ↦ (let above = a.ascending j i d more in_i in absurd (omega arith))
        | inr no_more ↦ omega arith
      ]
    ]

only_row : (rows : List Form) → AreApart rows → (place : ℕ) (d form : Form) → place < length rows → Contains rows form → (get_or rows place d).opcode ≡ form.opcode → get_or rows place d ≡ form
only_row rows a place d form within found same =
    let there : get_or rows found.0 d ≡ form = get_or_default rows found.0 d form found.1 ∙ found.2 in
    let e = same_place rows a place found.0 d within found.1 (same ∙ sym (ap (λ row. row.opcode) there)) in
    ap (λ k. get_or rows k d) e ∙ there

-- what a search finds
pub found_row : (rows : List Form) (n place : ℕ) (d : Form) → place < length rows → HoldsAt (λ row. nat_cmp row.opcode n ≡ Equal) rows place → Contains rows (get_or rows place d) × ((get_or rows place d).opcode ≡ n)
found_row rows n place d within equal =
    let e = equal d in
    ((place, within, get_or_default rows place (get_or rows place d) d within), grind (arith, nat_tests))

pub found_only : (rows : List Form) → AreApart rows → (n place : ℕ) (d form : Form) → place < length rows → HoldsAt (λ row. nat_cmp row.opcode n ≡ Equal) rows place → Contains rows form → form.opcode ≡ n → get_or rows place d ≡ form
found_only rows a n place d form within equal found same =
    only_row rows a place d form within found ((found_row rows n place d within equal).1 ∙ sym same)

-- where a search finds nothing there is no such row
pub no_row : (rows : List Form) (n place : ℕ) → IsPartitionPoint (λ row. nat_cmp row.opcode n ≡ Less) (λ row. nat_cmp row.opcode n ≡ Greater) rows place → (form : Form) → Contains rows form → form.opcode ≡ n → ⊥
no_row rows n place parts form found same =
    let there : (get_or rows found.0 form).opcode ≡ n = ap (λ row. row.opcode) found.2 ∙ same in
    elim (cases_lt found.0 place) [
      | inl below ↦ (let less = parts.0 found.0 form (omega arith) below in grind (arith, nat_tests))
      | inr above ↦ (let more = parts.1 found.0 form above found.1 in grind (arith, nat_tests))
    ]
