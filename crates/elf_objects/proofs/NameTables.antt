-- Names, their zero bytes, and the loops that look for these.
use Rattle.std.proofs.Common.{◌≡◌, ℕ, ◌+◌, ◌-◌, ◌<◌, ◌≤◌, true, ◌==◌, List, [], length, get_or, drop, nat_lt, sym, ap, subst, ⊎_elim, ◌∙◌, arith}
use Rattle.std.proofs.lemmas.Bool.{cases_lt, false≢true, eq-eqb, ne_eqb, lt-ltb, le-ltb}
use Rattle.std.proofs.lemmas.Grind.{get_or_default_zero}
use Rattle.std.proofs.lemmas.List.{drop_all, get_or-drop, length-drop}
use Rattle.std.proofs.lemmas.List.Folds.{list_any_at, list_any_none}
use Rattle.std.specs.List.{list_any}
use Rattle.elf_objects.specs.Names.{has_name}

-- where the last zero byte is just below the end, it ends the names that begin below the end, and no others
pub has_name-end : (table : List ℕ) (end place : ℕ) → end ≤ length table → ((k : ℕ) → end ≤ k → k < length table → get_or table k 0 ≡ 0 → ⊥) → (0 < end → get_or table (end - 1) 0 ≡ 0) → has_name table place ≡ nat_lt place end
unfolding has_name
has_name-end table end place within none last = ⊎_elim
    (λ (below : place < end).
    let zero_byte : get_or (drop place table) (end - 1 - place) 0 ≡ 0 = rw get_or-drop (subst (λ i. get_or table i 0 ≡ 0) (omega arith) (last (omega arith))) in
    list_any_at (λ b. b == 0) (drop place table) (end - 1 - place) 0 (simp length-drop (omega arith)) (eq-eqb _ _ zero_byte)
    ∙ sym (lt-ltb place end below))
    (λ (above : end ≤ place).
    list_any_none (λ b. b == 0) (drop place table) (λ k d known.
    let inside : place + k < length table = omega (arith, length-drop place table) in
    ne_eqb _ _ (λ zero_byte. none (place + k) (omega arith) inside (sym (get_or_default_zero table (place + k) d inside) ∙ sym (get_or-drop place table k d) ∙ zero_byte)))
    ∙ sym (le-ltb place end above))
    (cases_lt place end)

-- a name that is in a table begins in it
pub has_name-within : (table : List ℕ) (place : ℕ) → has_name table place ≡ true → place ≤ length table
unfolding has_name
has_name-within table place named = ⊎_elim
    (λ (past : length table < place).
    let none : drop place table ≡ [] = drop_all place table (omega arith) in
    absurd (false≢true (sym (ap (list_any (λ b. b == 0)) none) ∙ named)))
    (λ (within : place ≤ length table). within)
    (cases_lt (length table) place)
