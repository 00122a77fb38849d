use Rattle.std.specs.Prelude.{ℕ, Bool, not, min, ◌==◌, nat_lt, nat_le, int_lt, int_le}
use Rattle.bpf_alu.specs.declared.comparison.Test.{Test}
use Rattle.bpf_alu.specs.declared.comparison.Test.TheVariants.{Eq, Gt, Ge, Set, Ne, Sgt, Sge, Lt, Le, Slt, Sle}
use Rattle.bpf_alu.specs.Numbers.{signed, bitwise}

-- Whether a test holds at n bits, of numbers a and b below 2 ^ n (RFC 9669, section 4.3).
-- `Set` asks for a binary digit that is 1 in both.
unfoldable pub compare : ℕ → Test → ℕ → ℕ → Bool
compare n Eq a b = a == b
compare n Gt a b = nat_lt b a
compare n Ge a b = nat_le b a
compare n Set a b = not (bitwise n min a b == 0)
compare n Ne a b = not (a == b)
compare n Sgt a b = int_lt (signed n b) (signed n a)
compare n Sge a b = int_le (signed n b) (signed n a)
compare n Lt a b = nat_lt a b
compare n Le a b = nat_le a b
compare n Slt a b = int_lt (signed n a) (signed n b)
compare n Sle a b = int_le (signed n a) (signed n b)
