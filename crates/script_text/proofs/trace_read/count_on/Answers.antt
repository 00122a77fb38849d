use Rattle.std.proofs.Common.{sym, arith}
use Rattle.std.proofs.lemmas.Result.{on_ok_weaker}
use Rattle.script_text.proofs.TraceLemmas.{counted-past, counted-set}
use Rattle.script_text.proofs.trace_read.count_on.Goals as goal

pub returns-then-place-len : goal.returns-then-place-len
returns-then-place-len c =
    sym (counted-past c.args.processor c.args.count c.args.counts.now.items (omega (arith, c.if-place-len.true, c.len.ensures, c.args.counts.now.ok)))

pub returns : goal.returns
returns c =
    on_ok_weaker c.push.result (λ more. counted-set c.args.processor c.args.count c.args.counts.now.items c.index_mut.result.now c.push.new.self
    (omega (arith, c.if-place-len.false, c.len.ensures, c.args.counts.now.ok)) c.index_mut.ensures.value more) c.push.ensures.ok
