use Rattle.std.proofs.Common.{sym, ◌∙◌, arith}
use Rattle.script_text.proofs.Ip6Lemmas.{gap_passed, gap_none}
use Rattle.script_text.proofs.ip6.gap_of.Goals as goal

pub loop-behind-preserved : goal.loop-behind-preserved
loop-behind-preserved c =
    gap_passed c.args.text.now c.loop-behind.behind (omega arith) (omega arith) (sym c.are_colons.ensures ∙ c.if-are_colons.false) c.loop-behind.invariant

pub returns-clause-value : goal.returns-clause-value
returns-clause-value c = sym (gap_none c.args.text.now c.loop-behind.behind (omega arith) c.loop-behind.invariant)
