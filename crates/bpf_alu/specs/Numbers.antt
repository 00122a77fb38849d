-- Numbers of n bits: residues modulo 2 ^ n, their reading in two's complement, and their binary digits.
use Rattle.std.specs.Prelude.{ℕ, zero, suc, ◌+◌, ◌-◌, ◌*◌, ◌/◌, ◌%◌, ◌^◌, ℤ, pos, ◌-ℤ◌, unsigned_abs, nat_lt, if◌then◌else◌}
use Rattle.std.specs.Int.{int_rem_euclid}

-- the number from 0 to 2 ^ n - 1 that differs from z by a multiple of 2 ^ n
unfoldable pub residue : ℕ → ℤ → ℕ
residue n z = unsigned_abs (int_rem_euclid z (pos (2 ^ n)))

-- the n bits of x in two's complement: the upper half of the numbers is negative
unfoldable pub signed : ℕ → ℕ → ℤ
signed n x = if nat_lt x (2 ^ (n - 1)) then pos x else pos x -ℤ pos (2 ^ n)

-- the low bits of x, sign-extended to 64 bits (RFC 9669, section 2.3)
unfoldable pub extend : ℕ → ℕ → ℕ
extend x bits = residue 64 (signed bits (x % 2 ^ bits))

-- n binary digits, each of them f of the digits of a and b in its place
unfoldable pub bitwise : ℕ → (ℕ → ℕ → ℕ) → ℕ → ℕ → ℕ
bitwise zero f a b = 0
bitwise (suc n) f a b = bitwise n f (a / 2) (b / 2) * 2 + f (a % 2) (b % 2)
