use Rattle.script_text.proofs.PlaceLemmas.{first_place}
use Rattle.script_text.proofs.parts.separator_in.Goals as goal

pub returns : goal.returns
returns c = first_place _ _ _ c.memchr.ensures
