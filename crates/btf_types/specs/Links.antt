-- Ways from types to others, as they are kept once they were walked.
use Rattle.std.specs.Prelude.{◌≡◌, ℕ, zero, suc, ◌+◌, ◌<◌, ◌≤◌, ◌↔◌, List, length, get_or, Option, Some, option_and_then}
use Rattle.btf_types.specs.declared.link.Link.{Link}
use Rattle.btf_types.specs.declared.link.Pass.{Pass}
use Rattle.btf_types.specs.declared.link.Walk.{Walk}
use Rattle.btf_types.specs.declared.size.Scale.{Scale}
use Rattle.btf_types.specs.declared.types.TypeRow.{TypeRow}
use Rattle.btf_types.specs.Resolution.{Resolves, here, through}
use Rattle.btf_types.specs.Scale.{IsBounded, Scales}
use Rattle.btf_types.specs.Size.{HasSize, referred, sizing}
use Rattle.btf_types.specs.TypeTable.{TypeTable}

-- what is met after so many references
unfoldable pub after : TypeTable → ℕ → ℕ → Option ℕ
after types zero n = Some n
after types (suc k) n = option_and_then (after types k) (referred (sizing types n))

-- so many references lead from a type to another: the size of the first is that of the other, scaled
pub record Walked (types : TypeTable) (first at steps : ℕ) (scale : Scale) : Type 0 where
  pub in_range : at ≤ length types.rows
  pub path : (k : ℕ) → after types (steps + k) first ≡ after types k at
  pub sized : (total : ℕ) → HasSize types first total ↔ ((size : ℕ) × HasSize types at size × Scales scale size total)

-- how many modifiers are passed
abbrev pub depth : (types : TypeTable) → {number : ℕ} {row : TypeRow} → Resolves types number row → ℕ
depth types (here e m) = zero
depth types (through e m rest) = suc (depth types rest)

-- so many modifiers lead from a type to another
pub record Passed (types : TypeTable) (first at steps : ℕ) : Type 0 where
  pub in_range : at ≤ length types.rows
  pub back : (row : TypeRow) → Resolves types at row → Resolves types first row
  pub forth : (row : TypeRow) (r : Resolves types first row) → (s : Resolves types at row) × (depth types r ≡ steps + depth types s)

pub record IsWalk (types : TypeTable) (number : ℕ) (walk : Walk) : Type 0 where
  pub walked : Walked types number walk.at walk.steps walk.scale
  pub bounded : IsBounded walk.scale

abbrev pub IsPass : TypeTable → ℕ → Pass → Type 0
IsPass types number pass = Passed types number pass.at pass.steps

pub record IsLink (types : TypeTable) (number : ℕ) (link : Link) : Type 0 where
  pub walk : IsWalk types number link.walk
  pub pass : IsPass types number link.pass

-- the ways from the first types, in order
pub record AreLinks (types : TypeTable) (links : List Link) : Type 0 where
  pub each : (place : ℕ) (any : Link) → place < length links → IsLink types (place + 1) (get_or links place any)
