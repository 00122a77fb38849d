-- What arrays around a type make of its size.
use Rattle.std.specs.Prelude.{◌≡◌, ℕ, ◌*◌, ◌<◌, ◌≤◌, ◌^◌}
use Rattle.btf_types.specs.declared.size.Scale.{Scale}

abbrev pub Scales : Scale → ℕ → ℕ → Type 0
Scales scale size total = (size ≤ scale.largest) × (total ≡ scale.factor * size)

-- what is scaled is below 2 ^ 32
pub record IsBounded (scale : Scale) : Type 0 where
  pub product : scale.factor * scale.largest < 2 ^ 32
  pub largest : scale.largest < 2 ^ 32
