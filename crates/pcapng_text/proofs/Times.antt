-- Powers of ten against 64 bits.
use Rattle.std.proofs.Common.{◌≡◌, ℕ, ◌/◌, ◌^◌, ◌<◌, ◌≤◌, arith}
use Rattle.std.proofs.Math.Nat.{div-eq_of_lt, one-le-pow, pow-le-pow_right}

-- ten to at most 19 fits
pub ten_fits : (n : ℕ) → n ≤ 19 → 10 ^ n < 2 ^ 64
ten_fits n h = let le : 10 ^ n ≤ 10 ^ 19 = pow-le-pow_right {n = 10} (omega arith) h in omega arith

-- from twenty on a quotient of 64 bits is nothing
pub over_ten : (time n : ℕ) → time < 2 ^ 64 → 20 ≤ n → time / 10 ^ n ≡ 0
over_ten time n fits h = let le : 10 ^ 20 ≤ 10 ^ n = pow-le-pow_right {n = 10} (omega arith) h in div-eq_of_lt (omega arith)

pub ten_some : (n : ℕ) → 0 < 10 ^ n
ten_some n = let le = one-le-pow n 10 (omega arith) in omega arith

pub ruleset units = (ten_fits, over_ten, ten_some)
