use Rattle.std.proofs.Common.{arith}
use Rattle.script_text.proofs.Ip6Lemmas.{group_room, group_fits, raised_more}
use Rattle.script_text.proofs.ip6.raised.Goals as goal

pub overflow_mul-number : goal.overflow_mul-number
overflow_mul-number c =
    let fits = group_fits c.loop-count.number 0 c.loop-count.count c.loop-count.invariant.small (omega arith) (omega arith) in
    omega arith

pub loop-count-preserved : goal.loop-count-preserved
loop-count-preserved c =
    let room = group_room c.loop-count.number 0 c.loop-count.count c.loop-count.invariant.small (omega arith) in
    record {
      value = raised_more _ _ _ _ c.loop-count.invariant.value c.loop-count.invariant.low;
      small = omega arith;
      low = omega arith;
      high = omega arith;
    }
