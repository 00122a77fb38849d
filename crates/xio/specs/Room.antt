-- Bytes in a room of a size that was taken first.
use Rattle.std.specs.Prelude.{ℕ, ◌+◌, Bool, nat_le, List, length}

pub record RoomState : Type 0 where
  pub bytes : List ℕ
  pub size : ℕ

-- whether a room of this size has space for a piece behind the bytes
abbrev pub fits : ℕ → List ℕ → List ℕ → Bool
fits size bytes piece = nat_le (length bytes + length piece) size
