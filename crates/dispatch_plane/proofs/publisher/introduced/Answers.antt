use Rattle.std.proofs.Common.{sym, subst, ap, ◌∙◌, drop, List, [], fold}
use Rattle.dispatch_plane.specs.Published.{absorbed}
use Rattle.dispatch_plane.specs.View.{Follows}
use Rattle.dispatch_plane.specs.declared.published.Publication.{Publication}
use Rattle.dispatch_plane.proofs.Publications.{follows_itself}
use Rattle.dispatch_plane.proofs.Views.{introduces}
use Rattle.dispatch_plane.proofs.publisher.introduced.Goals as goal

pub publish_as-writer-requires : goal.publish_as-writer-requires
publish_as-writer-requires g c next is =
    let now = c.args.writer.desk.shown.value in
    let same = is ∙ ap (λ (more : List Publication). fold absorbed now more) c.requires.nothing in
    introduces _ _ now next (subst (Follows now) (sym same) (follows_itself now c.requires.whole))
