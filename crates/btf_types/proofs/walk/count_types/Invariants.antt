use Rattle.std.proofs.Common.{◌≡◌, ◌+◌, ◌≤◌, ℕ, List, length}
use Rattle.std.specs.List.{AllByRecursion}
use Rattle.btf_types.specs.Breaks.{first_broken, walk_rules}
use Rattle.btf_types.specs.Sections.{types_in}
use Rattle.btf_types.specs.TypeBytes.{IsWhole}
use Rattle.btf_types.proofs.walk.count_types.Given as goal

-- the types so far are whole and keep the rules, so those that are left decide
abbrev pub invariant-loop-rest : goal.invariant-loop-rest
invariant-loop-rest l =
    let rules = λ (bytes : List ℕ). first_broken (walk_rules l.end (types_in bytes)) in
    record {
      short : l.count + length l.rest ≤ length l.section;
      counted : l.count + length (types_in l.rest) ≡ length (types_in l.section);
      whole : AllByRecursion IsWhole (types_in l.rest) → AllByRecursion IsWhole (types_in l.section);
      rules : rules l.rest ≡ rules l.section;
    }

abbrev pub decreases-loop-rest : goal.decreases-loop-rest
decreases-loop-rest l = length l.rest
