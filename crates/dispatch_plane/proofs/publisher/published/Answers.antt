use Rattle.std.proofs.Common.{sym, subst}
use Rattle.dispatch_plane.specs.View.{Follows}
use Rattle.dispatch_plane.proofs.Views.{publishes}
use Rattle.dispatch_plane.proofs.publisher.published.Goals as goal

pub publish_as-writer-requires : goal.publish_as-writer-requires
publish_as-writer-requires g c next is =
    let now = c.args.writer.desk.shown.value in
    publishes _ _ now next (subst (Follows now) (sym is) c.requires)
