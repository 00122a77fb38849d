use Rattle.std.proofs.Common.{◌≡◌, ℕ, ◌<◌, false}
use Rattle.object_load.specs.Sections.{has_name}
use Rattle.object_load.proofs.sections.section_named.Given as goal

abbrev pub invariant-loop-number : goal.invariant-loop-number
invariant-loop-number l = (k : ℕ) → k < l.number → has_name l.object l.name k ≡ false
