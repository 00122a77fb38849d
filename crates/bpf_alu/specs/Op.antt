use Rattle.std.specs.Prelude.{ℕ, ◌+◌, ◌*◌, ◌/◌, ◌%◌, ◌^◌, min, max, pos, ◌-ℤ◌, neg_ℤ, int_div, int_rem, ◌==◌, if◌then◌else◌}
use Rattle.std.specs.Int.{int_div_euclid}
use Rattle.bpf_alu.specs.declared.arithmetic.Op.{Op}
use Rattle.bpf_alu.specs.declared.arithmetic.Op.TheVariants.{Add, Sub, Mul, Div, Sdiv, Or, And, Lsh, Rsh, Neg, Mod, Smod, Xor, Mov, Arsh}
use Rattle.bpf_alu.specs.Numbers.{residue, signed, bitwise}

-- What an operation gives at n bits, of a target a and a source b below 2 ^ n (RFC 9669, section 4.1).
-- `int_div` rounds toward zero and `int_rem` is what it leaves; `int_div_euclid` by a power of two rounds down.
-- The least number over -1 is 2 ^ (n - 1), and in two's complement that residue is the least number again.
-- Of two binary digits `min` is their and, `max` their or, and the sum modulo 2 their exclusive or.
unfoldable pub alu : ℕ → Op → ℕ → ℕ → ℕ
alu n Add a b = (a + b) % 2 ^ n
alu n Sub a b = residue n (pos a -ℤ pos b)
alu n Mul a b = (a * b) % 2 ^ n
alu n Div a b = if b == 0 then 0 else a / b
alu n Sdiv a b = if b == 0 then 0 else residue n (int_div (signed n a) (signed n b))
alu n Or a b = bitwise n max a b
alu n And a b = bitwise n min a b
alu n Lsh a b = (a * 2 ^ (b % n)) % 2 ^ n
alu n Rsh a b = a / 2 ^ (b % n)
alu n Neg a b = residue n (neg_ℤ (pos a))
alu n Mod a b = if b == 0 then a else a % b
alu n Smod a b = if b == 0 then a else residue n (int_rem (signed n a) (signed n b))
alu n Xor a b = bitwise n (λ x y. (x + y) % 2) a b
alu n Mov a b = b
alu n Arsh a b = residue n (int_div_euclid (signed n a) (pos (2 ^ (b % n))))
