-- Where a processor stands between two packets.
use Rattle.std.specs.Prelude.{ℕ, List}
use Rattle.xdp_state.specs.Stores.{MemberMaps}

pub record Standing : Type 0 where
  -- its number, and the queue of an interface that it serves
  pub processor : ℕ
  pub interface : ℕ
  pub queue : ℕ
  -- the maps of its own
  pub stores : List MemberMaps
