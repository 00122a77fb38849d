use Rattle.std.proofs.Common.{◌≡◌, ℕ, List, ◌<◌, length, not, true, false, nat_le, arith, sym, ◌∙◌}
use Rattle.std.specs.List.{list_all}
use Rattle.btf_types.specs.Breaks.{reference_rule, place_of}
use Rattle.btf_types.specs.TypeBytes.{references_of}
use Rattle.btf_types.proofs.TypesIn.{below_next, breaks_here, keeps_more, whole_more}
use Rattle.btf_types.proofs.walk.reference_break.Goals as goal

pub returns-then-not-references_below : goal.returns-then-not-references_below
returns-then-not-references_below c =
    let rest = c.loop-rest.rest.now in
    let some : 0 < length rest = grind arith in
    let rule = λ (head : List ℕ). reference_rule c.args.types (place_of c.args.end head) head in
    let broken : not (list_all (λ r. nat_le r c.args.types) (references_of rest)) ≡ true = rw (← below_next c.args.types (references_of rest)) (grind arith) in
    sym (sym c.loop-rest.invariant.rules ∙ breaks_here rule rest some broken)

pub loop-rest-preserved : goal.loop-rest-preserved
loop-rest-preserved c =
    let rest = c.loop-rest.rest.now in
    let some : 0 < length rest = omega (arith, c.bytes_behind-rest.ensures.shorter) in
    let rule = λ (head : List ℕ). reference_rule c.args.types (place_of c.args.end head) head in
    let kept : not (list_all (λ r. nat_le r c.args.types) (references_of rest)) ≡ false = rw (← below_next c.args.types (references_of rest)) (grind arith) in
    record {
      inside = omega (arith, c.bytes_behind-rest.ensures.shorter, c.loop-rest.invariant.inside);
      whole = rw c.bytes_behind-rest.ensures.value ((whole_more rest some c.loop-rest.invariant.whole).1);
      rules = rw c.bytes_behind-rest.ensures.value (keeps_more rule rest some kept ∙ c.loop-rest.invariant.rules);
    }
