-- Numbers in bytes of either order.
use Rattle.std.specs.Prelude.{ℕ, List, drop}
use Rattle.byteorder.specs.Endian.{little_number, big_number}
use Rattle.pcapng_text.specs.declared.endian.Endian.{Endian}
use Rattle.pcapng_text.specs.declared.endian.Endian.TheVariants.{Little, Big}

-- the number in the first so many bytes
abbrev pub number_in : Endian → ℕ → List ℕ → ℕ
number_in Little size bytes = little_number size bytes
number_in Big size bytes = big_number size bytes

-- the number in the two bytes from a place on
unfoldable pub u16_at : Endian → List ℕ → ℕ → ℕ
u16_at endian bytes place = number_in endian 2 (drop place bytes)

-- and in the four bytes
unfoldable pub u32_at : Endian → List ℕ → ℕ → ℕ
u32_at endian bytes place = number_in endian 4 (drop place bytes)
