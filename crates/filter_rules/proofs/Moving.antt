-- Entries that move from one list into another, all but the one at a place.
use Rattle.std.proofs.Common.{◌≡◌, ℕ, zero, suc, ◌+◌, ◌-◌, ◌<◌, ◌≤◌, Bool, List, [], ◌∷◌, ◌++◌, length, take, drop, slice_range, position, Option, Some, None, is_some, append_assoc, length-append, arith, refl, ap, sym, subst, ◌∙◌, true, false, true≢false}
use Rattle.std.specs.Cmp.{IsEquivalence}
use Rattle.std.specs.List.{remove, remove_range, IsDistinct, AllZip}
use Rattle.std.specs.Map.{keys_of, lookup, remove_entry}
use Rattle.std.specs.Option.{IsSome, MatchOption}
use Rattle.std.proofs.lemmas.Grind.{common_steps}
use Rattle.std.proofs.lemmas.List.{take_all, drop_all, length_push}
use Rattle.indexmap.proofs.MapLemmas.{absent_before, Found-position, remove_entry-first}

take-nil : {X : Type 0} (i : ℕ) → take {A = X} i [] ≡ []
take-nil zero = refl
take-nil (suc i) = refl

pub remove-push_other : {X : Type 0} (xs : List X) (x : X) (i : ℕ) → (length xs ≡ i → ⊥) → remove (xs ++ x ∷ []) i ≡ remove xs i ++ x ∷ []
remove-push_other [] x zero other = absurd (other refl)
remove-push_other [] x (suc i) other = ap (λ l. x ∷ (l ++ [])) (take-nil i)
remove-push_other (y ∷ ys) x zero other = refl
remove-push_other (y ∷ ys) x (suc i) other = ap (λ l. y ∷ l) (remove-push_other ys x i (λ same. other (ap suc same)))

pub remove-push_same : {X : Type 0} (xs : List X) (x : X) → remove (xs ++ x ∷ []) (length xs) ≡ remove xs (length xs)
remove-push_same [] x = refl
remove-push_same (y ∷ ys) x = ap (λ l. y ∷ l) (remove-push_same ys x)

pub remove-nil : {X : Type 0} (i : ℕ) → remove {X = X} [] i ≡ []
remove-nil zero = refl
remove-nil (suc i) = refl

pub length-remove_le : {X : Type 0} (xs : List X) (i : ℕ) → length (remove xs i) ≤ length xs
length-remove_le [] zero = omega arith
length-remove_le [] (suc i) = omega arith
length-remove_le (x ∷ xs) zero = omega arith
length-remove_le (x ∷ xs) (suc i) = omega (arith, length-remove_le xs i)

pub lookup-removed : {K X : Type 0} (t : K → Bool) (es : List (K × X)) (i : ℕ) → lookup t es ≡ None → lookup t (remove es i) ≡ None
lookup-removed t [] zero none = refl
lookup-removed t [] (suc i) none = refl
lookup-removed t (e ∷ es) zero none = grind (arith, common_steps, none)
lookup-removed t (e ∷ es) (suc i) none = grind (arith, common_steps, none, lookup-removed t es i)

pub remove-at : {K X : Type 0} (t : K → Bool) (es : List (K × X)) (i : ℕ) → position t (keys_of es) ≡ Some i → remove es i ≡ remove_entry t es
remove-at t es i at = sym (remove_entry-first t es i (Found-position t es i at).first)

pub some_from : {X N : Type 0} (P : X → Type 0) (r : Option X) → MatchOption r N P → (N → ⊥) → IsSome r
some_from P None m never = absurd (never m)
some_from P (Some x) m never = refl

pub none_at : {X : Type 0} (r : Option X) → is_some r ≡ false → r ≡ None
none_at None none = refl
none_at (Some x) none = absurd (true≢false none)

pub clones-same : {X : Type 0} (R : X → X → Type 0) → ((x y : X) → R x y → y ≡ x) → (xs ys : List X) → AllZip R xs ys → ys ≡ xs
clones-same R same [] [] all = refl
clones-same R same [] (y ∷ ys) all = absurd all
clones-same R same (x ∷ xs) [] all = absurd all
clones-same R same (x ∷ xs) (y ∷ ys) all = λ i. same x y all.0 i ∷ clones-same R same xs ys all.1 i

pub whole_range : {X : Type 0} (xs : List X) → slice_range xs 0 (length xs) ≡ xs
whole_range xs = take_all (length xs - 0) xs (omega arith)

pub whole_removed : {X : Type 0} (xs : List X) → remove_range xs 0 (length xs) ≡ []
whole_removed xs = drop_all (length xs) xs (omega arith)

-- of all entries so many have left the rest, and those but the one at the place stand in the other list
pub record Moves {X : Type 0} (place : ℕ) (all rest : List X) (index : ℕ) (to : List X) : Type 0 where
  pub done : List X
  pub whole : all ≡ done ++ rest
  pub count : length done ≡ index
  pub moved : to ≡ remove done place

module _ {X : Type 0} (place : ℕ) (all : List X) where
  pub moves-start : (rest to : List X) → rest ≡ all → to ≡ [] → Moves place all rest 0 to
  moves-start rest to whole none = record { done = []; whole = sym whole; count = refl; moved = none ∙ sym (remove-nil place) }

  pub moves-on : (rest more : List X) (x : X) (index : ℕ) (to next : List X) → Moves place all rest index to → rest ≡ x ∷ more
      → (index ≡ place → ⊥) → next ≡ to ++ x ∷ [] → Moves place all more (index + 1) next
  moves-on rest more x index to next m is other made = record {
    done = m.done ++ x ∷ [];
    whole = m.whole ∙ ap (λ l. m.done ++ l) is ∙ sym (append_assoc m.done (x ∷ []) more);
    count = omega (arith, length_push m.done x, m.count);
    moved = made ∙ ap (λ l. l ++ x ∷ []) m.moved ∙ sym (remove-push_other m.done x place (λ same. other (sym m.count ∙ same)));
  }

  pub moves-past : (rest more : List X) (x : X) (index : ℕ) (to next : List X) → Moves place all rest index to → rest ≡ x ∷ more
      → index ≡ place → next ≡ to → Moves place all more (index + 1) next
  moves-past rest more x index to next m is here made =
      let at : place ≡ length m.done = sym here ∙ sym m.count in
      record {
        done = m.done ++ x ∷ [];
        whole = m.whole ∙ ap (λ l. m.done ++ l) is ∙ sym (append_assoc m.done (x ∷ []) more);
        count = omega (arith, length_push m.done x, m.count);
        moved = made ∙ m.moved ∙ ap (remove m.done) at ∙ sym (remove-push_same m.done x) ∙ ap (remove (m.done ++ x ∷ [])) (sym at);
      }

  pub moves-left : (rest : List X) (index : ℕ) (to : List X) → Moves place all rest index to → index < length all → rest ≡ [] → ⊥
  moves-left rest index to m within none =
      let long : length all ≡ length m.done + length rest = ap length m.whole ∙ length-append m.done rest in
      let short : length rest ≡ 0 = ap length none in
      omega (arith, long, short, m.count, within)

  pub moves-short : (rest : List X) (index : ℕ) (to : List X) → Moves place all rest index to → length to ≤ index
  moves-short rest index to m = omega (arith, ap length m.moved, length-remove_le m.done place, m.count)

  pub moves-end : (rest : List X) (index : ℕ) (to : List X) → Moves place all rest index to → index ≡ length all → to ≡ remove all place
  moves-end [] index to m at = m.moved ∙ ap (λ l. remove l place) (sym (m.whole ∙ append-nil m.done))
    where
      append-nil : (xs : List X) → xs ++ [] ≡ xs
      append-nil [] = refl
      append-nil (x ∷ xs) = ap (λ l. x ∷ l) (append-nil xs)
  moves-end (x ∷ rest) index to m at =
      let long : length all ≡ length m.done + suc (length rest) = ap length m.whole ∙ length-append m.done (x ∷ rest) in
      absurd (omega (arith, long, m.count, at))

-- the next key isn't in the other list yet
pub moves-absent : {K X : Type 0} {eq : K → K → Bool} → IsEquivalence eq → (place : ℕ) (all rest more : List (K × X)) (e : K × X) (index : ℕ) (to : List (K × X))
    → Moves place all rest index to → rest ≡ e ∷ more → IsDistinct eq (keys_of all) → lookup (eq e.0) to ≡ None
moves-absent {K} {X} {eq} laws place all rest more e index to m is different =
    let apart : IsDistinct eq (keys_of (m.done ++ e ∷ more)) = subst (λ l. IsDistinct eq (keys_of l)) (m.whole ∙ ap (λ l. m.done ++ l) is) different in
    ap (lookup (eq e.0)) m.moved ∙ lookup-removed (eq e.0) m.done place (absent_before laws m.done more e apart)
