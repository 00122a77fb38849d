use Rattle.std.specs.Prelude.{ℕ, zero, suc, ◌+◌, ◌*◌, ◌/◌, ◌%◌, ◌^◌, List, [], ◌∷◌, reverse}
use Rattle.bpf_alu.specs.declared.byte_order.Order.{Order}
use Rattle.bpf_alu.specs.declared.byte_order.Order.TheVariants.{ToLittle, ToBig, Swap}

-- the k low bytes of x, the lowest first
unfoldable pub bytes_of : ℕ → ℕ → List ℕ
bytes_of zero x = []
bytes_of (suc k) x = x % 256 ∷ bytes_of k (x / 256)

-- the number that has these bytes, the lowest first
unfoldable pub number_of : List ℕ → ℕ
number_of [] = 0
number_of (b ∷ bs) = b + 256 * number_of bs

-- the low bits of x in the order that is asked, on a little endian machine (RFC 9669, section 4.2)
unfoldable pub swap : Order → ℕ → ℕ → ℕ
swap ToLittle x bits = x % 2 ^ bits
swap ToBig x bits = number_of (reverse (bytes_of (bits / 8) x))
swap Swap x bits = number_of (reverse (bytes_of (bits / 8) x))
