use Rattle.std.proofs.Common.{◌≡◌, ℕ, ◌<◌, false, get_or}
use Rattle.btf_types.specs.declared.types.TypeRow.{TypeRow}
use Rattle.btf_types.specs.TypeTable.{is_section_named}
use Rattle.btf_types.proofs.types.Types.section_vars.Given as goal

-- no type so far is the section
abbrev pub invariant-loop-place : goal.invariant-loop-place
invariant-loop-place l =
    (k : ℕ) (d : TypeRow) → k < l.place → is_section_named l.self l.name (get_or l.self.rows k d) ≡ false
