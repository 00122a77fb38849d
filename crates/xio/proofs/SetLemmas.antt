-- Functions that are changed at one place.
use Rattle.std.proofs.Common.{◌≡◌, ◌≢◌, ℕ, refl, inl, inr}
use Rattle.std.proofs.lemmas.Bool.{eq-eqb}
use Rattle.std.proofs.lemmas.Bool.Decides.{eqb_tells}
use mathlib.Core.Path.{fun_ext}
use Rattle.xio.specs.Handles.{set_at}

-- the place that was set
pub set_at-same : {V : Type 0} (f : ℕ → V) (n : ℕ) (v : V) → set_at f n v n ≡ v
set_at-same f n v = rw (eq-eqb n n refl) refl

-- the same, where the places are equal by a fact
pub set_at-at : {V : Type 0} (f : ℕ → V) (n : ℕ) (v : V) (m : ℕ) → m ≡ n → set_at f n v m ≡ v
set_at-at f n v m same = rw (eq-eqb m n same) refl

-- every other place
pub set_at-other : {V : Type 0} (f : ℕ → V) (n : ℕ) (v : V) (m : ℕ) → m ≢ n → set_at f n v m ≡ f m
set_at-other f n v m other = elim (eqb_tells m n) [ inl same ↦ absurd (other same.1) | inr differs ↦ rw differs.0 refl ]

-- a function that is another one but at one place
pub set_at-elsewhere : {V : Type 0} (f g : ℕ → V) (n : ℕ) → ((m : ℕ) → m ≢ n → f m ≡ g m) → f ≡ set_at g n (f n)
set_at-elsewhere f g n same =
    fun_ext (λ m. elim (eqb_tells m n) [ inl here ↦ rw (here.0, here.1) refl | inr differs ↦ rw differs.0 (same m differs.1) ])
