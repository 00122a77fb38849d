use Rattle.std.proofs.Common.{sym, ◌∙◌}
use Rattle.std.proofs.lemmas.Bool.{eqb-true}
use Rattle.dispatch_plane.proofs.Fronts.{same_front}
use Rattle.dispatch_plane.proofs.history.Front.is.Goals as goal

pub returns : goal.returns
returns c = λ same.
    same_front c.args.self.now c.args.other.now c.beside.ensures c.requires (sym c.len-mine.ensures ∙ (eqb-true _ _ same ∙ c.len-theirs.ensures))
