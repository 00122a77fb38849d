-- The order in which the sinks are written: a phase stands whole in out before anything of it stands in the trace.
use Rattle.std.specs.Prelude.{◌≡◌, ℕ, List, ◌++◌}

-- new is old with the whole text behind it, and maybe more
abbrev pub AppendsWhole : List ℕ → List ℕ → List ℕ → Type 0
AppendsWhole old new text = (more : List ℕ) × (new ≡ old ++ (text ++ more))
