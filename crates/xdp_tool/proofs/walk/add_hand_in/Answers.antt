use Rattle.std.proofs.Common.{sym, arith}
use Rattle.std.proofs.lemmas.Result.{on_ok_weaker}
use Rattle.xdp_tool.proofs.Walking.{handed-past, handed-set}
use Rattle.xdp_tool.proofs.walk.add_hand_in.Goals as goal

pub returns-then-place-len-clause-ok : goal.returns-then-place-len-clause-ok
returns-then-place-len-clause-ok c =
    sym (handed-past c.args.processor c.args.hand_in c.args.hand_ins.now.items (omega (arith, c.if-place-len.true, c.len.ensures, c.args.hand_ins.now.ok)))

pub returns-clause-ok : goal.returns-clause-ok
returns-clause-ok c =
    on_ok_weaker c.push.result (λ more. handed-set c.args.processor c.args.hand_in c.args.hand_ins.now.items c.index_mut.result.now c.push.new.self
    (omega (arith, c.if-place-len.false, c.len.ensures, c.args.hand_ins.now.ok)) c.index_mut.ensures.value more) c.push.ensures.ok
