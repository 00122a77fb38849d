use Rattle.std.proofs.Common.{◌<◌, length, arith, ◌∙◌}
use Rattle.btf_types.specs.Breaks.{name_rule, place_of}
use Rattle.btf_types.proofs.TypesIn.{keeps_more, whole_more}
use Rattle.btf_types.proofs.walk.name_break.Goals as goal

pub loop-rest-preserved : goal.loop-rest-preserved
loop-rest-preserved c =
    let rest = c.loop-rest.rest.now in
    let some : 0 < length rest = omega (arith, c.bytes_behind-rest.ensures.shorter) in
    record {
      inside = omega (arith, c.bytes_behind-rest.ensures.shorter, c.loop-rest.invariant.inside);
      whole = rw c.bytes_behind-rest.ensures.value ((whole_more rest some c.loop-rest.invariant.whole).1);
      rules = rw c.bytes_behind-rest.ensures.value (keeps_more (λ head. name_rule c.args.strings (place_of c.args.end head) head) rest some (grind arith) ∙ c.loop-rest.invariant.rules);
    }
