-- The length of a frame's word.
use Rattle.std.proofs.Common.{◌≡◌, ℕ, ◌<◌, ◌≤◌, ◌⊎◌, true, List, length, Result, Ok, Err, Some, None, refl, sym, arith}
use Rattle.hex.specs.Hex.{decode_of}
use Rattle.hex.specs.declared.error.FromHexError.{FromHexError}
use Rattle.hex.proofs.HexLemmas.{decode_of-ok}
use Rattle.std.specs.Result.{result_ok}
use Rattle.std.specs.Prelude.{option_and_then, if◌then◌else◌}
use Rattle.std.proofs.lemmas.Bool.Decides.{nat_tests}
use Rattle.script_text.specs.Frames.{frame_of, has_frame_size}

-- a frame has two digits a byte, so a word of another length is none
pub frame_of-other : (word : List ℕ) → (length word < 28) ⊎ (31744 < length word) → frame_of word ≡ None
frame_of-other word other = decoded (decode_of word) refl
  where
    decoded : (r : Result (List ℕ) FromHexError) → decode_of word ≡ r → option_and_then (λ bytes. if has_frame_size bytes then Some bytes else None) (result_ok r) ≡ None
    decoded (Ok bytes) is = let twice = (decode_of-ok word bytes is).2 in grind (arith, twice, other)
    decoded (Err e) is = refl

-- and one of its length has a frame's
pub decoded_size : (word bytes : List ℕ) → Some bytes ≡ result_ok (decode_of word) → 28 ≤ length word → length word ≤ 31744 → has_frame_size bytes ≡ true
decoded_size word bytes read low high = decoded (decode_of word) refl read
  where
    decoded : (r : Result (List ℕ) FromHexError) → decode_of word ≡ r → Some bytes ≡ result_ok r → has_frame_size bytes ≡ true
    decoded (Ok b) is some = let twice = (decode_of-ok word b is).2 in grind (arith, nat_tests, twice, some, low, high)
    decoded (Err e) is some = absurd (cc)

pub frame_of-found : (word bytes : List ℕ) → Some bytes ≡ result_ok (decode_of word) → 28 ≤ length word → length word ≤ 31744 → Some bytes ≡ frame_of word
frame_of-found word bytes read low high = rw (sym read, decoded_size word bytes read low high) refl
