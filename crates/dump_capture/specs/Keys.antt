-- The interface blocks that a capture knows: those that are written, and those whose keys wait for their first packet.
use Rattle.std.specs.Prelude.{ℕ, Bool, ◌||◌, List, [], ◌∷◌, ◌++◌, position, Option, Some, None, if◌then◌else◌}
use Rattle.std.specs.List.{list_any, position_or_len, remove}
use Rattle.dump_capture.specs.declared.key.Key.{Key}
use Rattle.dump_capture.specs.Key.{is_key_of, key_of}
use Rattle.dump_capture.specs.Point.{PlainPoint}

pub record Keys : Type 0 where
  -- in the order in which they were written
  pub written : List Key
  pub waiting : List Key

-- the number of the interface block of a point, where it is written
abbrev pub number_of : List Key → PlainPoint → Option ℕ
number_of keys point = position (is_key_of point) keys

-- the key of a point is among these
unfoldable pub has_key : List Key → PlainPoint → Bool
has_key keys point = list_any (is_key_of point) keys

abbrev pub is_known : Keys → PlainPoint → Bool
is_known keys point = has_key keys.written point || has_key keys.waiting point

-- with the key of a point
unfoldable pub with_key : Keys → PlainPoint → Keys
with_key keys point = if is_known keys point then keys else record keys { waiting = keys.waiting ++ key_of point ∷ [] }

-- without the first key of a point
unfoldable pub without : PlainPoint → List Key → List Key
without point keys = remove keys (position_or_len (is_key_of point) keys)

abbrev pub shown_at : Keys → PlainPoint → Option ℕ → Keys
shown_at keys point (Some number) = keys
shown_at keys point None = record { written = keys.written ++ key_of point ∷ []; waiting = without point keys.waiting }

-- behind the blocks of a point
unfoldable pub shown : Keys → PlainPoint → Keys
shown keys point = shown_at keys point (number_of keys.written point)
