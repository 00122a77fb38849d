-- The file numbers that an object gave, and how each was made.
use Rattle.std.specs.Prelude.{◌≡◌, ℕ, eqb, if◌then◌else◌, Result, Ok, Err}

-- how a number stands
pub data Handle : Type 0 where
  Closed : Handle
  Opened : Handle
  Made : Handle

-- f with v at n
abbrev pub set_at : {V : Type 0} → (ℕ → V) → ℕ → V → ℕ → V
set_at f n v m = if eqb m n then v else f m

-- `Ok n` gives a number that was not open; `Err` gives none
abbrev pub GivesHandle : {E : Type 0} → Handle → (ℕ → Handle) → (ℕ → Handle) → Result ℕ E → Type 0
GivesHandle kind old new (Ok n) = (old n ≡ Closed) × (new ≡ set_at old n kind)
GivesHandle kind old new (Err _) = new ≡ old
