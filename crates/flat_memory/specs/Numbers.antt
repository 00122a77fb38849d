-- Numbers in places of bytes, the lowest byte first.
use Rattle.std.specs.Prelude.{ℕ, ◌+◌, List, ◌++◌, length, take, drop}
use Rattle.byteorder.specs.Endian.{little_from, little_bytes}
use Rattle.bpf_insn.specs.declared.operation.Size.{Size}
use Rattle.bpf_insn.specs.declared.operation.Size.TheVariants.{Byte, Half, Word, Double}

-- how many bytes a load or a store moves (RFC 9669 §5)
abbrev pub size_of : Size → ℕ
size_of Byte = 1
size_of Half = 2
size_of Word = 4
size_of Double = 8

-- the number in n bytes from a place on
unfoldable pub number_in : List ℕ → ℕ → ℕ → ℕ
number_in bytes place n = little_from place n bytes

-- the low bytes of a value, as many as the size has
unfoldable pub stored : Size → ℕ → List ℕ
stored size value = little_bytes (size_of size) value

-- the bytes with others written over them from a place on
unfoldable pub with_bytes : List ℕ → ℕ → List ℕ → List ℕ
with_bytes bytes place others = take place bytes ++ (others ++ drop (place + length others) bytes)
