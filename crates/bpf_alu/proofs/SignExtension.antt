-- A shift to the top and an arithmetic shift back extend the sign of the low bits.
use Rattle.std.proofs.Common.{◌≡◌, ℕ, zero, suc, ◌+◌, ◌-◌, ◌*◌, ◌/◌, ◌%◌, ◌^◌, ◌<◌, ◌≤◌, pos, negsuc, refl, sym, ◌∙◌, ap, subst, arith, lt-ltb, le-ltb, ⊎_elim, w64, to_z, of_z, add-zero, suc-add, pow-add, pow_pos, mul-le-mul_right, mod-lt}
use Rattle.std.specs.Int.Signed.{mag, shr_z, mag_shr}
use Rattle.std.proofs.Math.Nat.{mul-mod_left}
use Rattle.std.proofs.lemmas.Bool.{cases_lt}
use Rattle.std.proofs.lemmas.Nat.{field_of, mod-pow-add, shl-shr, shl_below, shr_high}
use Rattle.bpf_alu.specs.Numbers.{signed, residue, extend}
use Rattle.bpf_alu.proofs.TwosComplement.{signed_is, residue_is, signed_range, minus_above}

-- shifted up and back, the low b bits are left
low_bits : (b s v : ℕ) → v * 2 ^ s % 2 ^ (b + s) / 2 ^ s ≡ v % 2 ^ b
low_bits b s v = field_of (v * 2 ^ s) b s ∙ ap (λ t. t % 2 ^ b) (shl-shr v s)

pub low_bits_64 : (bits v : ℕ) → bits ≤ 64 → v * 2 ^ (64 - bits) % 2 ^ 64 / 2 ^ (64 - bits) ≡ v % 2 ^ bits
low_bits_64 bits v h =
    let whole : bits + (64 - bits) ≡ 64 = omega arith in
    subst (λ n. v * 2 ^ (64 - bits) % 2 ^ n / 2 ^ (64 - bits) ≡ v % 2 ^ bits) whole (low_bits bits (64 - bits) v)

-- ---- the two halves of the numbers of suc h bits

signed_low : (h a : ℕ) → a < 2 ^ h → signed (suc h) a ≡ pos a
unfolding signed
signed_low h a p = let half : suc h - 1 ≡ h = omega arith in rw (half, lt-ltb a (2 ^ h) p) refl

signed_high : (h a : ℕ) → 2 ^ h ≤ a → a < 2 ^ suc h → signed (suc h) a ≡ negsuc (2 ^ suc h - suc a)
unfolding signed
signed_high h a p q = let half : suc h - 1 ≡ h = omega arith in rw (half, le-ltb a (2 ^ h) p) (minus_above a (2 ^ suc h) q)

-- ---- the arithmetic shift back

spread : (p s d low : ℕ) → 0 < s → p ≡ d + suc low → p * s - suc (low * s) ≡ d * s + (s - 1)
spread p s d low h e = rw e (omega arith)

negative_shr : (b s low : ℕ) → low < 2 ^ b → (2 ^ (b + s) - suc (low * 2 ^ s)) / 2 ^ s ≡ 2 ^ b - suc low
negative_shr b s low h =
    let parts : 2 ^ b ≡ (2 ^ b - suc low) + suc low = omega arith in
    let room : 2 ^ s - 1 < 2 ^ s = omega (arith, pow_pos s) in
    rw (pow-add 2 b s, spread (2 ^ b) (2 ^ s) (2 ^ b - suc low) low (pow_pos s) parts) (shr_high (2 ^ b - suc low) s (2 ^ s - 1) room)

signed_shr : (h s low : ℕ) → low < 2 ^ suc h → shr_z (signed (suc h + s) (low * 2 ^ s)) (2 ^ s) ≡ signed (suc h) low
signed_shr h s low p = rw (suc-add h s) (⊎_elim below above (cases_lt low (2 ^ h)))
  where
    below : low < 2 ^ h → shr_z (signed (suc (h + s)) (low * 2 ^ s)) (2 ^ s) ≡ signed (suc h) low
    below q = rw (signed_low (h + s) (low * 2 ^ s) (shl_below low h s q), signed_low h low q) (ap pos (shl-shr low s))

    above : 2 ^ h ≤ low → shr_z (signed (suc (h + s)) (low * 2 ^ s)) (2 ^ s) ≡ signed (suc h) low
    above q =
        let under : 2 ^ (h + s) ≤ low * 2 ^ s = rw (pow-add 2 h s) (mul-le-mul_right (2 ^ s) q) in
        let over : low * 2 ^ s < 2 ^ suc (h + s) = rw (sym (suc-add h s)) (shl_below low (suc h) s p) in
        rw (signed_high (h + s) (low * 2 ^ s) under over, signed_high h low q p)
        (ap negsuc (rw (sym (suc-add h s)) (negative_shr (suc h) s low p)))

shifted_up : (b s v : ℕ) → v * 2 ^ s % 2 ^ (b + s) ≡ v % 2 ^ b * 2 ^ s
shifted_up b s v = rw (mod-pow-add (v * 2 ^ s) b s, shl-shr v s, mul-mod_left v (2 ^ s)) (add-zero (v % 2 ^ b * 2 ^ s))

shifts_extend : (h s v : ℕ) → shr_z (signed (suc h + s) (v * 2 ^ s % 2 ^ (suc h + s))) (2 ^ s) ≡ signed (suc h) (v % 2 ^ suc h)
shifts_extend h s v = rw (shifted_up (suc h) s v) (signed_shr h s (v % 2 ^ suc h) (mod-lt v (pow_pos (suc h))))

-- ---- at 64 bits

at_64 : (h s v : ℕ) → suc h + s ≡ 64 → of_z w64 (shr_z (to_z w64 (v * 2 ^ s % 2 ^ 64)) (2 ^ s)) ≡ residue 64 (signed (suc h) (v % 2 ^ suc h))
at_64 h s v whole =
    let up : v * 2 ^ s % 2 ^ 64 < 2 ^ 64 = omega arith in
    let back : shr_z (signed 64 (v * 2 ^ s % 2 ^ 64)) (2 ^ s) ≡ signed (suc h) (v % 2 ^ suc h) =
    subst (λ n. shr_z (signed n (v * 2 ^ s % 2 ^ n)) (2 ^ s) ≡ signed (suc h) (v % 2 ^ suc h)) whole (shifts_extend h s v)
    in
    let range : mag (shr_z (to_z w64 (v * 2 ^ s % 2 ^ 64)) (2 ^ s)) < 2 ^ 64 =
    omega (arith, mag_shr (to_z w64 (v * 2 ^ s % 2 ^ 64)) (2 ^ s), signed_range w64 (v * 2 ^ s % 2 ^ 64) up)
    in
    sym (residue_is w64 _ range) ∙ ap (λ z. residue 64 (shr_z z (2 ^ s))) (sym (signed_is w64 (v * 2 ^ s % 2 ^ 64) up)) ∙ ap (residue 64) back

pub extend_is : (bits v : ℕ) → 0 < bits → bits ≤ 64 → of_z w64 (shr_z (to_z w64 (v * 2 ^ (64 - bits) % 2 ^ 64)) (2 ^ (64 - bits))) ≡ extend v bits
unfolding extend
extend_is zero v p q = elim p [ ]
extend_is (suc h) v p q = at_64 h (64 - suc h) v (omega arith)
