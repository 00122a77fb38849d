-- What a processor keeps of its own.
use Rattle.std.specs.Prelude.{Option}
use Rattle.xdp_state.specs.Standing.{Standing}
use Rattle.xdp_state.specs.declared.traversal.Traversal.{Traversal}

pub record Carrier : Type 0 where
  pub standing : Standing
  -- the way of the last packet
  pub trip : Option Traversal
