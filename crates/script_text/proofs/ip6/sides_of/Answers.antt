use Rattle.std.proofs.Common.{arith}
use Rattle.script_text.proofs.Ip6Lemmas.{sides_fit}
use Rattle.script_text.proofs.ip6.sides_of.Goals as goal

pub overflow_add-result : goal.overflow_add-result
overflow_add-result c =
    let fits = sides_fit c.args.high.now.number c.args.high.now.count c.args.low.now.number c.args.low.now.count c.requires.high c.requires.low (omega arith) in
    omega (arith, c.raised.ensures)
