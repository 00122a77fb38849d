use Rattle.script_text.proofs.HandedLemmas.{one_more, sound_start}
use Rattle.script_text.proofs.line.start_line.Goals as goal

pub returns-clause-sound : goal.returns-clause-sound
returns-clause-sound c = rw (c.in_ok-push.ensures.ok, c.in_ok-push_command.ensures.ok) (sound_start c.args.script.now _ _ _ _ c.requires)

pub returns-clause-lines : goal.returns-clause-lines
returns-clause-lines c = rw c.in_ok-push_command.ensures.ok (one_more _ _)
