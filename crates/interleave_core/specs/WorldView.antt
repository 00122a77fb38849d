-- How a world stands for a moment.
use Rattle.std.specs.Prelude.{◌≡◌, ◌<◌, ◌^◌, length}
use Rattle.interleave_core.specs.Moment.{Moment}
use Rattle.interleave_core.specs.Sound.{IsSoundMoment}
use Rattle.interleave_core.specs.declared.world.World.TheInside.{Inside}
use Rattle.xdp_state.specs.Book.{AllTaken, after}

abbrev pub moment_of : Inside → Moment
moment_of world = record {
  published = world.changes.items;
  processors = world.lanes.items;
  plan = world.plan.items;
  choices = world.choices.items;
}

pub record IsWorld (world : Inside) : Type 0 where
  pub state : world.state ≡ after world.changes.items
  pub taken : AllTaken world.changes.items
  pub sound : IsSoundMoment (moment_of world)
  pub processors : length world.lanes.items < 2 ^ 32
