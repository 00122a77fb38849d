use Rattle.std.proofs.Common.{rules}
use Rattle.xio.proofs.NumbersLemmas.{call_at-push}
use Rattle.xio.proofs.memory.numbers.Numbers.open.Goals as goal

pub returns-clause-calls : goal.returns-clause-calls
returns-clause-calls c =
    rw c.push_reserved-2.ensures.items (call_at-push c.args.self.now.entries.items c.args.self.now.asks.items _ c.len-number.result (search rules) (search rules))
