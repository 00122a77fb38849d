use Rattle.std.proofs.Common.{◌≡◌, ℕ, ◌<◌, false}
use Rattle.object_load.specs.Sections.{is_writable}
use Rattle.object_load.proofs.sections.has_writable_data.Given as goal

abbrev pub invariant-loop-number : goal.invariant-loop-number
invariant-loop-number l = (k : ℕ) → k < l.number → is_writable l.object k ≡ false
