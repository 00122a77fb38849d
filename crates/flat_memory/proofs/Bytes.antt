-- Numbers in places of bytes.
use Rattle.std.proofs.Common.{◌≡◌, ℕ, zero, suc, ◌+◌, ◌<◌, ◌≤◌, List, ◌++◌, ◌∷◌, length, take, drop, set, [], slice_index, refl, sym, ap, ◌∙◌, arith, length-append, add-suc, add-zero, add-one}
use Rattle.std.proofs.lemmas.List.{get_or-drop, length-take-le, length-drop, set_split, drop-drop}
use Rattle.std.specs.Int.{w64, to_le_bytes}
use borrow.Rule.Slice.PartMut.{put_mid}
use Rattle.byteorder.specs.Endian.{little_from, little_number}
use Rattle.byteorder.specs.Numbers.{length-bytes_low_first}
use Rattle.bpf_insn.specs.declared.operation.Size.{Size}
use Rattle.bpf_insn.specs.declared.operation.Size.TheVariants.{Byte, Half, Word, Double}
use Rattle.flat_memory.specs.Numbers.{size_of, number_in, stored, with_bytes}

-- the bytes from a place on
little_from-drop : (place i n : ℕ) (bytes : List ℕ) → little_from i n (drop place bytes) ≡ little_from (place + i) n bytes
little_from-drop place i zero bytes = refl
little_from-drop place i (suc n) bytes =
    let byte : slice_index (drop place bytes) i ≡ slice_index bytes (place + i) = get_or-drop place bytes i 0 in
    let rest : little_from (suc i) n (drop place bytes) ≡ little_from (suc (place + i)) n bytes = rw (← add-suc place i) (little_from-drop place (suc i) n bytes) in
    rw (byte, rest) refl

pub little_number-drop : (place n : ℕ) (bytes : List ℕ) → little_number n (drop place bytes) ≡ number_in bytes place n
unfolding number_in
little_number-drop place n bytes = rw add-zero at (little_from-drop place 0 n bytes)

pub byte_number : (place : ℕ) (bytes : List ℕ) → slice_index bytes place ≡ number_in bytes place 1
unfolding number_in
byte_number place bytes = omega arith

-- one byte written over, and a part
pub byte_written : (bytes : List ℕ) (place : ℕ) (others : List ℕ) (b : ℕ) → place < length bytes → others ≡ b ∷ [] → set bytes place b ≡ with_bytes bytes place others
unfolding with_bytes
byte_written bytes place others b within is = rw (is, set_split bytes place b within, add-one) refl

pub part_written : (bytes : List ℕ) (place size : ℕ) (others : List ℕ) → length others ≡ size → take place bytes ++ (others ++ drop size (drop place bytes)) ≡ with_bytes bytes place others
unfolding with_bytes
part_written bytes place size others is = rw (drop-drop size place bytes, is) refl

pub length-stored : (size : Size) (value : ℕ) → length (stored size value) ≡ size_of size
unfolding stored
length-stored size value = length-bytes_low_first 0 (size_of size) value

pub length-with_bytes : (bytes : List ℕ) (place : ℕ) (others : List ℕ) → place + length others ≤ length bytes → length (with_bytes bytes place others) ≡ length bytes
unfolding with_bytes
length-with_bytes bytes place others fits = omega (
  arith,
  length-append (take place bytes) (others ++ drop (place + length others) bytes),
  length-append others (drop (place + length others) bytes),
  length-take-le place bytes (omega arith),
  length-drop (place + length others) bytes,
)

-- the low bytes of a value of 64 bits
low_bytes : (size : Size) (value : ℕ) → take (size_of size) (to_le_bytes w64 value) ≡ stored size value
unfolding stored
low_bytes Byte value = refl
low_bytes Half value = refl
low_bytes Word value = refl
low_bytes Double value = refl

pub low_byte : (value : ℕ) → stored Byte value ≡ slice_index (to_le_bytes w64 value) 0 ∷ []
unfolding stored
low_byte value = refl

-- a part of `n` bytes written over by the low bytes of a value
pub number_written : (bytes : List ℕ) (place n value : ℕ) (size : Size) (low part : List ℕ) → n ≡ size_of size → low ≡ to_le_bytes w64 value → part ≡ take n low → put_mid place n bytes part ≡ with_bytes bytes place (stored size value)
number_written bytes place n value size low part is of_value is_part =
    let e : part ≡ stored size value = is_part ∙ ap (λ (k : ℕ). take k low) is ∙ ap (take (size_of size)) of_value ∙ low_bytes size value in
    let long : length (stored size value) ≡ n = length-stored size value ∙ sym is in
    rw e (part_written bytes place n (stored size value) long)
