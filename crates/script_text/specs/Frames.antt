-- The frames of a script.
use Rattle.std.specs.Prelude.{ℕ, ◌&&◌, Bool, nat_le, List, length, Option, Some, None, option_and_then, if◌then◌else◌}
use Rattle.std.specs.Result.{result_ok}
use Rattle.hex.specs.Hex.{decode_of}

-- 14 to 15,872 bytes
abbrev pub has_frame_size : List ℕ → Bool
has_frame_size bytes = nat_le 14 (length bytes) && nat_le (length bytes) 15872

-- the frame of pairs of hexadecimal digits of either case
abbrev pub frame_of : List ℕ → Option (List ℕ)
frame_of word = option_and_then (λ bytes. if has_frame_size bytes then Some bytes else None) (result_ok (decode_of word))
