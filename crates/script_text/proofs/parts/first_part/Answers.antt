use Rattle.std.proofs.Common.{sym}
use Rattle.std.proofs.lemmas.List.{take_rest}
use Rattle.script_text.proofs.PartLemmas.{parts_front, parts_whole}
use Rattle.script_text.proofs.parts.first_part.Goals as goal

pub returns-in-Some-clause-parts : goal.returns-in-Some-clause-parts
returns-in-Some-clause-parts c = simp take_rest (parts_front _ _ _ (sym c.in-Some.ensures))

pub returns-in-None-clause-parts : goal.returns-in-None-clause-parts
returns-in-None-clause-parts c = parts_whole _ _ (sym c.in-None.ensures)
