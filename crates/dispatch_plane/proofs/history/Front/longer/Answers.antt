use Rattle.std.proofs.Common.{◌<◌, ◌≤◌, arith, length}
use Rattle.dispatch_plane.proofs.Fronts.{begins_other, other_begins}
use Rattle.dispatch_plane.proofs.history.Front.longer.Goals as goal

pub returns-then-mine-theirs-clause-kept : goal.returns-then-mine-theirs-clause-kept
returns-then-mine-theirs-clause-kept c =
    let less : length c.args.self.now.log < length c.args.other.now.log = omega (arith, c.len-mine.ensures, c.len-theirs.ensures) in
    rw c.again.ensures (begins_other c.args.self.now c.args.other.now c.beside.ensures less)

pub returns-else-mine-theirs-clause-learnt : goal.returns-else-mine-theirs-clause-learnt
returns-else-mine-theirs-clause-learnt c =
    let le : length c.args.other.now.log ≤ length c.args.self.now.log = omega (arith, c.len-mine.ensures, c.len-theirs.ensures) in
    rw c.again-else-mine-theirs.ensures (other_begins c.args.self.now c.args.other.now c.beside.ensures le)
