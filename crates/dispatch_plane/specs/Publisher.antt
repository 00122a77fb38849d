-- How a publisher's parts stand for what it has published.
use Rattle.std.specs.Prelude.{◌≡◌, [], drop, Some}
use Rattle.left_right.specs.Sides.{view}
use Rattle.dispatch_plane.specs.History.{committed, shown}
use Rattle.dispatch_plane.specs.Known.{Known}
use Rattle.dispatch_plane.specs.View.{IsWhole}
use Rattle.dispatch_plane.specs.declared.publisher.Publisher.TheInside.{Inside}

abbrev pub view_of : Inside → Known
view_of publisher = record { plane = publisher.front.plane; changes = committed publisher.front.log }

-- One plane. The copy that ports see shows all that is committed, and nothing waits to be shown.
pub record Holds (publisher : Inside) : Type 0 where
  pub head : publisher.head ≡ publisher.front.plane
  pub whole : IsWhole publisher.writer.desk.shown.value
  pub plane : publisher.writer.desk.shown.value.front.plane ≡ publisher.front.plane
  pub shown : shown publisher.writer.desk.shown.value.front.log ≡ committed publisher.front.log
  pub pending : drop publisher.writer.behind publisher.writer.log.items ≡ []
  pub seat : (view publisher.writer.desk.place).plane ≡ Some publisher.front.plane
