-- The sums of a run: by processor, and over all of them, those of the phase that was added last apart.
use Rattle.std.specs.Prelude.{List}
use Rattle.xdp_state.specs.declared.tally.Tally.{Tally}

pub record RunSums : Type 0 where
  pub by_processor : List Tally
  pub before : Tally
  pub latest : Tally
