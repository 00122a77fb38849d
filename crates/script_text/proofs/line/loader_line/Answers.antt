use Rattle.script_text.proofs.HandedLemmas.{one_more, sound_load}
use Rattle.script_text.specs.WordViews.{word_of}
use Rattle.script_text.proofs.line.loader_line.Goals as goal

pub returns-clause-sound : goal.returns-clause-sound
returns-clause-sound c =
    rw (c.in_ok-push_command.ensures.ok, c.in_ok-add_object.ensures.ok)
    (sound_load c.args.script.now (word_of c.in_ok-words.words.plain.second) c.args.number c.in_ok-command.command c.requires c.in_ok-command.ensures.object c.in_ok-command.ensures.flags)

pub returns-clause-lines : goal.returns-clause-lines
returns-clause-lines c = rw c.in_ok-push_command.ensures.ok (one_more _ _)
