use Rattle.std.proofs.Common.{sym}
use Rattle.std.proofs.lemmas.List.{take_rest}
use Rattle.script_text.proofs.LineLemmas.{lines_feed}
use Rattle.script_text.proofs.lines.split_line.Goals as goal

pub returns-in-Some-clause-lines : goal.returns-in-Some-clause-lines
returns-in-Some-clause-lines c =
    let lines = lines_feed _ _ (sym c.in-Some.ensures) in rw (take_rest, c.without_return.ensures) (lines.1)
