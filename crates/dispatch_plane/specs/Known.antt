-- What a publisher and a note stand for.
use Rattle.std.specs.Prelude.{List}
use Rattle.logbook.specs.Pages.{Book as Plane}
use Rattle.xdp_state.specs.declared.change.Change.{Change}

pub record Known : Type 0 where
  pub plane : Plane
  -- all that were published by then
  pub changes : List Change
