-- Texts that grew by a prefix of what was to come.
use Rattle.std.specs.Prelude.{◌≡◌, ℕ, ◌⊎◌, List, ◌++◌, take}

-- new is old with the front of the text behind it
abbrev pub AppendsPrefix : List ℕ → List ℕ → List ℕ → Type 0
AppendsPrefix old new text = (n : ℕ) × (new ≡ old ++ take n text)

-- the whole text was appended, or there was a fault and a prefix of it was
abbrev pub AppendsUnless : Type 0 → List ℕ → List ℕ → List ℕ → Type 0
AppendsUnless fault old new text = (new ≡ old ++ text) ⊎ (fault × AppendsPrefix old new text)
