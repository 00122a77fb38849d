-- Lengths of what is written.
use Rattle.std.proofs.Common.{◌≡◌, ℕ, ◌+◌, ◌%◌, ◌^◌, ◌<◌, ◌≤◌, List, ◌++◌, length, arith}
use Rattle.std.proofs.lemmas.List.{length-append, length-take}
use Rattle.pcapng_text.specs.Options.{padded}
use Rattle.pcapng_text.specs.Written.{block_bytes, block_size, option_bytes, padding}

-- a length that is padded
pub le-padded : (size : ℕ) → size ≤ padded size
unfolding padded
le-padded size = omega arith

pub padded-le : (size : ℕ) → padded size ≤ size + 3
unfolding padded
padded-le size = omega arith

pub padded-even : (size : ℕ) → padded size % 4 ≡ 0
unfolding padded
padded-even size = omega arith

pub length-padding : (size : ℕ) → length (padding size) + size ≡ padded size
unfolding padding
length-padding size =
    simp length-take (omega (arith, le-padded size, padded-le size))

-- a written block has the length that it says
pub length-block : (kind : ℕ) (fields content options : List ℕ) → length (block_bytes kind fields content options) ≡ block_size fields content options
unfolding block_bytes block_size
length-block kind fields content options =
    simp length-append (omega (arith, length-padding (length content)))

-- an option and its length
pub length-option : (code : ℕ) (value : List ℕ) → length (option_bytes code value) ≡ 4 + padded (length value)
unfolding option_bytes
length-option code value = simp length-append (omega (arith, length-padding (length value)))

-- data and what pads them
pub length-data : (bytes : List ℕ) → length (bytes ++ padding (length bytes)) ≡ padded (length bytes)
length-data bytes = omega (arith, length-append bytes (padding (length bytes)), length-padding (length bytes))

pub ruleset lengths = (length-data, length-option, le-padded)
