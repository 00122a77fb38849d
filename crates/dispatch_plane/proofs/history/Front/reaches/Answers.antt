use Rattle.std.proofs.Common.{suc, ◌≤◌, length, arith}
use Rattle.std.proofs.lemmas.Bool.{leb-true}
use Rattle.dispatch_plane.proofs.Fronts.{reaches_other}
use Rattle.dispatch_plane.proofs.history.Front.reaches.Goals as goal

pub returns : goal.returns
returns c = λ long.
    let le : length c.args.other.now.log ≤ suc (length c.args.self.now.log) =
    omega (arith, leb-true _ _ long, c.saturating_sub-drafted.ensures, c.len-mine.ensures, c.len-theirs.ensures) in
    reaches_other c.args.self.now c.args.other.now c.beside.ensures le
