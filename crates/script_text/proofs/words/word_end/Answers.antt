use Rattle.script_text.proofs.PlaceLemmas.{first_place}
use Rattle.script_text.proofs.words.word_end.Goals as goal

pub returns : goal.returns
returns c = first_place _ _ _ c.memchr2.ensures
