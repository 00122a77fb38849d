use Rattle.script_text.specs.Texts.{refusal_text}
use Rattle.script_text.proofs.refusal.refusal_print.Goals as goal

pub returns-in-TooManyPrograms : goal.returns-in-TooManyPrograms
unfolding refusal_text
returns-in-TooManyPrograms g c = rw c.in-TooManyPrograms.is c.print-in-TooManyPrograms.ensures
