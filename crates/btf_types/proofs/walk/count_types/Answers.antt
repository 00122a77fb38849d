use Rattle.std.proofs.Common.{ℕ, List, ◌<◌, length, arith, ap, sym, ◌∙◌}
use Rattle.btf_types.specs.Breaks.{type_rules, place_of}
use Rattle.btf_types.proofs.TypesIn.{types_in_more, break_here, keep_more}
use Rattle.btf_types.proofs.walk.count_types.Goals as goal

pub returns-in-Some-clause-rules : goal.returns-in-Some-clause-rules
returns-in-Some-clause-rules c =
    let rest = c.loop-rest.rest.now in
    let some : 0 < length rest = grind arith in
    let rules = λ (head : List ℕ). type_rules (place_of c.args.end head) head in
    sym c.loop-rest.invariant.rules ∙ break_here rules rest c.in-Some.bad some (grind arith)

pub loop-rest-preserved : goal.loop-rest-preserved
loop-rest-preserved c =
    let rest = c.loop-rest.rest.now in
    let some : 0 < length rest = omega (arith, c.bytes_behind-rest.ensures.shorter) in
    let rules = λ (head : List ℕ). type_rules (place_of c.args.end head) head in
    let more = types_in_more rest some in
    record {
      short = omega (arith, c.bytes_behind-rest.ensures.shorter, c.loop-rest.invariant.short);
      counted = rw c.bytes_behind-rest.ensures.value (omega (arith, ap length more, c.loop-rest.invariant.counted));
      whole = rw c.bytes_behind-rest.ensures.value (λ all. c.loop-rest.invariant.whole (rw more (c.in_default.ensures.whole, all)));
      rules = rw c.bytes_behind-rest.ensures.value (keep_more rules rest some (grind arith) ∙ c.loop-rest.invariant.rules);
    }
