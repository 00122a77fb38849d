-- A scale round an array: the numbers alone.
use Rattle.std.proofs.Common.{◌≡◌, ℕ, zero, suc, ◌*◌, ◌-◌, ◌/◌, ◌<◌, ◌≤◌, ◌^◌, min, arith}
use Rattle.std.proofs.Math.Nat.{le-div_iff_mul-le, mul-div-le, mul-le-mul_left, mul-le-mul_right, mul_assoc, mul_comm}

-- a capped product is still small times a quotient
pub product_fits : (factor largest count product : ℕ) → factor * largest < 2 ^ 32 → product ≤ factor * count → product * (largest / count) < 2 ^ 32
product_fits factor largest count product fits below =
    let left : product * (largest / count) ≤ (factor * count) * (largest / count) = mul-le-mul_right (largest / count) below in
    let right : factor * (count * (largest / count)) ≤ factor * largest = mul-le-mul_left factor (mul-div-le largest count) in
    omega (arith, left, right, mul_assoc factor count (largest / count))

-- at most the quotient is at most the whole for so many
pub within : (largest count size : ℕ) → 0 < count → size ≤ largest / count → count * size ≤ largest
within largest count size h le = rw (mul_comm count size) ((le-div_iff_mul-le h).0 le)

pub within_back : (largest count size : ℕ) → 0 < count → count * size ≤ largest → size ≤ largest / count
within_back largest count size h le = (le-div_iff_mul-le h).1 (rw (mul_comm size count) le)

-- the capped product scales a size within the quotient as both factors do
pub scaled_product : (factor largest count size : ℕ) → 0 < count → factor * largest < 2 ^ 32 → count * size ≤ largest → min (factor * count) (2 ^ 32 - 1) * size ≡ factor * (count * size)
scaled_product factor largest count zero h fits le = grind arith
scaled_product factor largest count (suc n) h fits le =
    let one : count ≤ count * suc n = omega arith in
    let below : factor * count ≤ factor * largest = mul-le-mul_left factor (omega (arith, one, le)) in
    let uncapped : min (factor * count) (2 ^ 32 - 1) ≡ factor * count = omega (arith, below, fits) in
    rw uncapped (mul_assoc factor count (suc n))
