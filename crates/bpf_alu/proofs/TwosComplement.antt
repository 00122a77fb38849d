-- What the operations of the signed and unsigned types give, in the words of the definitions.
use Rattle.std.proofs.Common.{sym, ◌≡◌, ℕ, zero, suc, ◌+◌, ◌-◌, ◌/◌, ◌%◌, ◌^◌, ◌<◌, ◌≤◌, Bool, true, false, if◌then◌else◌, ℤ, pos, negsuc, ◌-ℤ◌, neg_ℤ, refl, arith, nat_lt, int_div, int_rem, mod-eq_of_lt, div-le_self, ⊎_elim, to_z, of_z}
use Rattle.std.specs.Int.{Width, w8, w16, w32, w64, w128, int_div_euclid}
use Rattle.std.specs.Int.Signed.{mag, mag_rem, mag_shr, shr_z}
use Rattle.std.proofs.Math.Nat.{add-mod_right, mod_self, sub-zero}
use Rattle.std.proofs.lemmas.Bool.{cases_lt}
use Rattle.std.proofs.lemmas.Int.{ints}
use mir.Val.{bits, hbits, sel}
use mir.ValLaws.{pow-bits, to_z-Fits}
use Rattle.bpf_alu.specs.Numbers.{signed, residue}

-- ---- a number read in two's complement

pub minus_above : (a b : ℕ) → a < b → pos a -ℤ pos b ≡ negsuc (b - suc a)
minus_above a b h = omega (arith, ints)

minus_below : (a b : ℕ) → b ≤ a → pos a -ℤ pos b ≡ pos (a - b)
minus_below a b h = omega (arith, ints)

half_is : (w : Width) → bits w - 1 ≡ hbits w
half_is w8 = refl
half_is w16 = refl
half_is w32 = refl
half_is w64 = refl
half_is w128 = refl

chosen : (t : Bool) (x y z : ℤ) → y ≡ z → (if t then x else y) ≡ sel t x z
chosen true x y z e = refl
chosen false x y z e = e

pub signed_is : (w : Width) (a : ℕ) → a < 2 ^ bits w → signed (bits w) a ≡ to_z w a
unfolding signed
signed_is w a h = rw (half_is w) (chosen (nat_lt a (2 ^ hbits w)) _ _ _ (minus_above a (2 ^ bits w) h))

pub signed_32 : (a : ℕ) → a < 2 ^ 32 → signed 32 a ≡ to_z w32 a
signed_32 = signed_is w32

pub signed_64 : (a : ℕ) → a < 2 ^ 64 → signed 64 a ≡ to_z w64 a
signed_64 = signed_is w64

-- ---- residues

pub residue_is : (w : Width) (z : ℤ) → mag z < 2 ^ bits w → residue (bits w) z ≡ of_z w z
unfolding residue
residue_is w (pos k) h = mod-eq_of_lt h
residue_is w (negsuc k) h = rw (mod-eq_of_lt h) (omega arith)

pub residue_minus : (n a b : ℕ) → a < 2 ^ n → b < 2 ^ n → residue n (pos a -ℤ pos b) ≡ (a + (2 ^ n - b)) % 2 ^ n
unfolding residue
residue_minus n a b p q = ⊎_elim below above (cases_lt a b)
  where
    below : a < b → residue n (pos a -ℤ pos b) ≡ (a + (2 ^ n - b)) % 2 ^ n
    below h =
        let low : b - suc a < 2 ^ n = omega arith in
        let sum : a + (2 ^ n - b) < 2 ^ n = omega arith in
        rw (minus_above a b h, mod-eq_of_lt low, mod-eq_of_lt sum) (omega arith)

    above : b ≤ a → residue n (pos a -ℤ pos b) ≡ (a + (2 ^ n - b)) % 2 ^ n
    above h =
        let sum : a + (2 ^ n - b) ≡ (a - b) + 2 ^ n = omega arith in
        rw (minus_below a b h, sum, add-mod_right (a - b) (2 ^ n)) refl

pub residue_neg : (n a : ℕ) → a < 2 ^ n → residue n (neg_ℤ (pos a)) ≡ (2 ^ n - a) % 2 ^ n
unfolding residue
residue_neg n zero h = rw (mod-eq_of_lt h, sub-zero, mod_self (2 ^ n)) refl
residue_neg n (suc a) h =
    let low : a < 2 ^ n = omega arith in
    let rest : 2 ^ n - suc a < 2 ^ n = omega arith in
    rw (mod-eq_of_lt low, mod-eq_of_lt rest) (omega arith)

-- ---- division and shifts

mag_neg : (r m : ℕ) → r ≤ suc m → mag (neg_ℤ (pos r)) ≤ suc m
mag_neg zero m h = omega arith
mag_neg (suc r) m h = omega arith

mag_div : (x y : ℤ) → mag (int_div x y) ≤ suc (mag x)
mag_div (pos a) (pos b) = omega (arith, div-le_self a b)
mag_div (pos a) (negsuc b) = mag_neg (a / suc b) a (omega (arith, div-le_self a (suc b)))
mag_div (negsuc a) (pos b) = mag_neg (suc a / b) a (div-le_self (suc a) b)
mag_div (negsuc a) (negsuc b) = div-le_self (suc a) (suc b)

pub signed_range : (w : Width) (a : ℕ) → a < 2 ^ bits w → mag (to_z w a) < 2 ^ hbits w
signed_range w a h = (to_z-Fits w a (record { fits = h })).sfits

-- what is no larger than one more than a signed number is its own residue
quotient_is : (w : Width) (a : ℕ) (z : ℤ) → a < 2 ^ bits w → mag z ≤ suc (mag (to_z w a)) → residue (bits w) z ≡ of_z w z
quotient_is w a z h le = residue_is w z (omega (arith, pow-bits w, signed_range w a h))

pub div_is : (w : Width) (a b : ℕ) → a < 2 ^ bits w → b < 2 ^ bits w → of_z w (int_div (to_z w a) (to_z w b)) ≡ residue (bits w) (int_div (signed (bits w) a) (signed (bits w) b))
div_is w a b p q = rw (signed_is w a p, signed_is w b q) (sym (quotient_is w a _ p (mag_div (to_z w a) (to_z w b))))

pub rem_is : (w : Width) (a b : ℕ) → a < 2 ^ bits w → b < 2 ^ bits w → of_z w (int_rem (to_z w a) (to_z w b)) ≡ residue (bits w) (int_rem (signed (bits w) a) (signed (bits w) b))
rem_is w a b p q = rw (signed_is w a p, signed_is w b q) (sym (quotient_is w a _ p (omega (arith, mag_rem (to_z w a) (to_z w b)))))

div_euclid_is : (x : ℤ) (m : ℕ) → int_div_euclid x (pos m) ≡ shr_z x m
div_euclid_is (pos a) m = refl
div_euclid_is (negsuc a) m = refl

pub shr_is : (w : Width) (a m : ℕ) → a < 2 ^ bits w → of_z w (shr_z (to_z w a) m) ≡ residue (bits w) (int_div_euclid (signed (bits w) a) (pos m))
shr_is w a m p = rw (signed_is w a p, div_euclid_is (to_z w a) m) (sym (quotient_is w a _ p (omega (arith, mag_shr (to_z w a) m))))
