-- A packet as it is handed in.
use Rattle.std.specs.Prelude.{ℕ, List}

pub record Handed : Type 0 where
  pub id : ℕ
  pub timestamp : ℕ
  pub frame : List ℕ
