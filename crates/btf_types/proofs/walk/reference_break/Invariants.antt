use Rattle.std.proofs.Common.{◌≡◌, ◌≤◌, ℕ, List, length}
use Rattle.std.specs.List.{AllByRecursion}
use Rattle.btf_types.specs.Breaks.{first_broken, reference_rules}
use Rattle.btf_types.specs.Sections.{types_in}
use Rattle.btf_types.specs.TypeBytes.{IsWhole}
use Rattle.btf_types.proofs.walk.reference_break.Given as goal

-- the types so far keep the rule, so those that are left decide
abbrev pub invariant-loop-rest : goal.invariant-loop-rest
invariant-loop-rest l =
    let rules = λ (bytes : List ℕ). first_broken (reference_rules l.types l.end (types_in bytes)) in
    record {
      inside : length l.rest ≤ l.end;
      whole : AllByRecursion IsWhole (types_in l.rest);
      rules : rules l.rest ≡ rules l.section;
    }

abbrev pub decreases-loop-rest : goal.decreases-loop-rest
decreases-loop-rest l = length l.rest
