use Rattle.dispatch_plane.proofs.Publications.{whole_none}
use Rattle.dispatch_plane.proofs.Views.{keeps_first}
use Rattle.dispatch_plane.proofs.publisher.writer_of.Goals as goal

pub new-requires-clause-rule : goal.new-requires-clause-rule
new-requires-clause-rule c =
    let none = c.requires.origin in
    keeps_first _ (whole_none _ c.requires.empty (cc))
