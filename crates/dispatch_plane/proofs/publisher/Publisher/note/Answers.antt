use Rattle.dispatch_plane.proofs.Publications.{count_shown}
use Rattle.dispatch_plane.proofs.publisher.Publisher.note.Goals as goal

pub new-requires : goal.new-requires
new-requires c =
    let count = count_shown c.self.inside.writer.desk.shown.value c.self.inside.front.log c.self.invariant.whole c.self.invariant.shown in
    cc
