-- The exchange that adds an entry keeps the rule of the log.
use Rattle.std.proofs.Common.{◌≡◌, ℕ, ◌+◌, ◌<◌, ◌==◌, Bool, true, false, List, [], ◌∷◌, ◌++◌, length, refl, ap, sym, subst, arith, inl, length-append, None}
use Rattle.std.proofs.lemmas.List.{append-nil}
use Rattle.std.proofs.lemmas.Bool.Decides.{nat_tests}
use mathlib.Core.List.{IsPrefix}
use prog.Atomic.{either}
use Rattle.logbook.specs.Pages.{Cell, cell, keeps, no_nib, step, Moves, Goes}
use Rattle.dispatch_plane.specs.declared.entry.Entry.{Entry}
use Rattle.dispatch_plane.specs.Log.{IsCounted, Adds}
use Rattle.dispatch_plane.proofs.Prefixes.{starts_whole}

-- callers see nothing of the log, and trade nothing
abbrev pub shows_nothing : List Entry → List Entry
shows_nothing log = []

abbrev pub moves_nothing : List Entry → List Entry → ℕ → Type 0
moves_nothing before after answer = Unit {0}

abbrev pub next_of : ℕ → ℕ → ℕ
next_of old found = either (found == old) (old + 1) found

abbrev pub adds_to : List Entry → Entry → ℕ → List Cell → List Entry → Type 0
adds_to known entry old cells log =
    Goes IsCounted shows_nothing moves_nothing 0 (known, (no_nib, None)) (next_of old) (Adds (step 0 old (old + 1) entry) (known, (no_nib, None))) cells log

goes : (log known : List Entry) (entry : Entry) (old : ℕ) → length known ≡ old → IsPrefix known log → (whole : Bool) → (length log == old) ≡ whole
    → adds_to known entry old ((length log, true) ∷ (0, true) ∷ []) log
goes log known entry old long begins true is =
    let here : length log ≡ old = grind (arith, nat_tests) in
    let same : known ≡ log = starts_whole known log begins (omega arith) in
    let word : next_of old (length log) ≡ length (log ++ entry ∷ []) = rw is (omega (arith, length-append log (entry ∷ []))) in (
      keeps,
      entry ∷ [],
      None,
      tt,
      record { words = ap (λ (n : ℕ). (n, true) ∷ (0, true) ∷ []) word },
      inl (refl, refl),
      rw is (ap (λ front. front ++ entry ∷ []) (sym same)),
    )
goes log known entry old long begins false is =
    let word : next_of old (length log) ≡ length (log ++ []) = rw is (ap length (sym (append-nil log))) in (
      keeps,
      [],
      None,
      tt,
      record { words = ap (λ (n : ℕ). (n, true) ∷ (0, true) ∷ []) word },
      inl (refl, refl),
      rw is (ap length (append-nil log)),
    )

-- whatever the log is by then
pub adds : (known : List Entry) (entry : Entry) (old : ℕ) → length known ≡ old
    → Moves IsCounted shows_nothing moves_nothing 0 (known, (no_nib, None)) (next_of old) (Adds (step 0 old (old + 1) entry) (known, (no_nib, None)))
adds known entry old long cells log counted begins away =
    let P : List Cell → Type 0 = λ cs. (0 < length cs) × ((cell cs 0).1 ≡ true) × adds_to known entry old cs log in
    subst P (sym counted.words) (omega arith, refl, goes log known entry old long begins (length log == old) refl)
