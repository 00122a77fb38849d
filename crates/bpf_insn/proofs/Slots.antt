-- One slot: the bytes that it depends on, and what is read of what was written.
use Rattle.std.proofs.Common.{◌≡◌, ◌<◌, ◌≤◌, ◌+◌, ◌*◌, ◌/◌, ◌%◌, ◌^◌, ◌-◌, ℕ, zero, suc, List, [], ◌∷◌, ◌++◌, length, get_or, take, drop, refl, sym, ap, ◌∙◌, arith, false, lit<, lit≤, inl, inr}
use Rattle.std.specs.Prelude.{ℤ, pos, negsuc, IsBitSet, bit_and, FitsSigned}
use mir.Val.{bits, hbits}
use Rattle.std.specs.List.{AllByRecursion}
use Rattle.std.proofs.lemmas.List.Elements.{All-from_recursion}
use Rattle.std.specs.Int.{Width, w16, w32, cast_signed, cast_unsigned, bit_at, to_le_bytes}
use Rattle.std.proofs.lemmas.Bool.{cases_lt}
use Rattle.std.proofs.lemmas.List.{get_or-take, get_or-drop, take_rest}
use Rattle.std.proofs.lemmas.Int.{to_z-of_z, of_z-to_z}
use Rattle.std.proofs.lemmas.Nat.Bits.{and_pow}
use Rattle.std.proofs.Math.Pow.{pow_mono}
use Rattle.std.proofs.Math.Nat.{div-eq_of_lt}
use Rattle.byteorder.specs.Endian.{little_from, little_number, little_bytes}
use Rattle.byteorder.specs.Numbers.{little_from-take, little_number-reads_back}
use Rattle.bpf_insn.specs.declared.insn.Insn.{Insn}
use Rattle.bpf_insn.specs.Insn.{slot, slot_bytes}

-- the number in n bytes from place i on
little_from-drop : (k i n : ℕ) (xs : List ℕ) → little_from i n (drop k xs) ≡ little_from (k + i) n xs
little_from-drop k i zero xs = refl
little_from-drop k i (suc n) xs =
    let byte = get_or-drop k xs i 0 in
    let rest = little_from-drop k (suc i) n xs in
    let moved : k + suc i ≡ suc (k + i) = omega arith in
    rw (byte, rest, moved) refl

fields : ℕ → ℕ → ℕ → ℕ → Insn
fields opcode registers offset imm = record {
  opcode = opcode;
  target = registers % 16;
  source = registers / 16;
  offset = cast_signed w16 offset;
  imm = cast_signed w32 imm;
  half = false;
}

slot-fields : (xs : List ℕ) → slot xs ≡ fields (get_or xs 0 0) (get_or xs 1 0) (little_from 2 2 xs) (little_from 4 4 xs)
unfolding slot fields
slot-fields xs = refl

-- a slot is in the first eight bytes
pub slot-take : (n : ℕ) (xs : List ℕ) → 8 ≤ n → slot (take n xs) ≡ slot xs
slot-take n xs h =
    let opcode = get_or-take n xs 0 0 (omega arith) in
    let registers = get_or-take n xs 1 0 (omega arith) in
    let offset = little_from-take 2 2 n xs (omega arith) in
    let imm = little_from-take 4 4 n xs (omega arith) in
    let front = slot-fields (take n xs) in
    let whole = slot-fields xs in
    cc

-- a signed number that is read from place k on
pub number_read : (w : Width) (k n : ℕ) (xs : List ℕ) (z : ℤ) → FitsSigned w z → z ≡ cast_signed w (little_number n (take (length xs - k) (drop k xs))) → cast_signed w (cast_unsigned w z) ≡ cast_signed w (little_from k n xs)
number_read w k n xs z fits e =
    let there : k + 0 ≡ k = omega arith in
    to_z-of_z w z fits ∙ e ∙ ap (λ ys. cast_signed w (little_number n ys)) (take_rest xs k) ∙ ap (cast_signed w) (little_from-drop k 0 n xs) ∙ ap (λ i. cast_signed w (little_from i n xs)) there

-- a slot from its fields
pub slot_made : (xs : List ℕ) (offset imm : ℤ) → offset ≡ cast_signed w16 (little_from 2 2 xs) → imm ≡ cast_signed w32 (little_from 4 4 xs) →
    slot xs ≡ record { opcode = get_or xs 0 0; target = get_or xs 1 0 % 16; source = get_or xs 1 0 / 16; offset = offset; imm = imm; half = false }
unfolding slot
slot_made xs offset imm low high = cc

-- a set bit of a number below 2 ^ k has a place below k
pub bit_below : (k n i : ℕ) → n < 2 ^ k → IsBitSet n i → i < k
bit_below k n i fits is_set =
    elim (cases_lt i k) [
      | inl below ↦ below
      | inr above ↦ (
          let power : 2 ^ k ≤ 2 ^ i = pow_mono above in
          let none : n / 2 ^ i ≡ 0 = div-eq_of_lt (omega arith) in
          let bit : bit_at n i ≡ 0 = ap (λ q. q % 2) none in
          let zero_bits : bit_and n (2 ^ i) ≡ 0 = and_pow n i ∙ ap (λ b. b * 2 ^ i) bit ∙ (omega arith) in
          absurd (is_set zero_bits)
          )
    ]

-- the bits of a signed number
bits_fit : (w : Width) (z : ℤ) → FitsSigned w z → 0 < 2 ^ bits w → 2 ^ hbits w ≤ 2 ^ bits w → cast_unsigned w z < 2 ^ bits w
bits_fit w (pos n) fits whole half = let f : n < 2 ^ hbits w = fits.sfits in omega arith
bits_fit w (negsuc n) fits whole half = omega arith

pub offset_written : (z : ℤ) (rest : List ℕ) → FitsSigned w16 z → cast_signed w16 (little_from 0 2 (little_bytes 2 (cast_unsigned w16 z) ++ rest)) ≡ z
offset_written z rest fits =
    ap (cast_signed w16) (little_number-reads_back 2 (cast_unsigned w16 z) rest (bits_fit w16 z fits (lit< tt) (lit≤ tt))) ∙ to_z-of_z w16 z fits

pub imm_written : (z : ℤ) (rest : List ℕ) → FitsSigned w32 z → cast_signed w32 (little_from 0 4 (little_bytes 4 (cast_unsigned w32 z) ++ rest)) ≡ z
imm_written z rest fits =
    ap (cast_signed w32) (little_number-reads_back 4 (cast_unsigned w32 z) rest (bits_fit w32 z fits (lit< tt) (lit≤ tt))) ∙ to_z-of_z w32 z fits

-- what is written is read
pub slot-slot_bytes : (insn : Insn) (rest : List ℕ) → insn.target < 16 → FitsSigned w16 insn.offset → FitsSigned w32 insn.imm → slot (slot_bytes insn ++ rest) ≡ record insn { half = false }
unfolding slot slot_bytes
slot-slot_bytes insn rest target offset imm =
    let low : (insn.source * 16 + insn.target) % 16 ≡ insn.target = omega arith in
    let high : (insn.source * 16 + insn.target) / 16 ≡ insn.source = omega arith in
    let offset_is = offset_written insn.offset (little_bytes 4 (cast_unsigned w32 insn.imm) ++ rest) offset in
    let imm_is = imm_written insn.imm rest imm in
    cc

-- a slot that is written byte by byte
pub slot_written : (insn : Insn) (offset imm : List ℕ) → FitsSigned w16 insn.offset → FitsSigned w32 insn.imm
    → offset ≡ to_le_bytes w16 (cast_unsigned w16 (cast_signed w16 (cast_unsigned w16 insn.offset)))
    → imm ≡ to_le_bytes w32 (cast_unsigned w32 (cast_signed w32 (cast_unsigned w32 insn.imm)))
    → insn.opcode ∷ (insn.source * 16 + insn.target) ∷ get_or offset 0 0 ∷ get_or offset 1 0 ∷ get_or imm 0 0 ∷ get_or imm 1 0 ∷ get_or imm 2 0 ∷ get_or imm 3 0 ∷ [] ≡ slot_bytes insn
unfolding slot_bytes
slot_written insn offset imm offset_fits imm_fits offset_is imm_is =
    let low = to_z-of_z w16 insn.offset offset_fits in
    let high = to_z-of_z w32 insn.imm imm_fits in
    cc

-- what stands in a list of eight
eight : (xs : List ℕ) → length xs ≡ 8 → xs ≡ get_or xs 0 0 ∷ get_or xs 1 0 ∷ get_or xs 2 0 ∷ get_or xs 3 0 ∷ get_or xs 4 0 ∷ get_or xs 5 0 ∷ get_or xs 6 0 ∷ get_or xs 7 0 ∷ []
eight [] e = absurd (omega arith)
eight (a ∷ []) e = absurd (omega arith)
eight (a ∷ b ∷ []) e = absurd (omega arith)
eight (a ∷ b ∷ c ∷ []) e = absurd (omega arith)
eight (a ∷ b ∷ c ∷ d ∷ []) e = absurd (omega arith)
eight (a ∷ b ∷ c ∷ d ∷ i ∷ []) e = absurd (omega arith)
eight (a ∷ b ∷ c ∷ d ∷ i ∷ j ∷ []) e = absurd (omega arith)
eight (a ∷ b ∷ c ∷ d ∷ i ∷ j ∷ k ∷ []) e = absurd (omega arith)
eight (a ∷ b ∷ c ∷ d ∷ i ∷ j ∷ k ∷ l ∷ []) e = refl
eight (a ∷ b ∷ c ∷ d ∷ i ∷ j ∷ k ∷ l ∷ m ∷ xs) e = absurd (omega arith)

abbrev pub AreBytes : List ℕ → Type 0
AreBytes xs = AllByRecursion (λ b. b < 2 ^ 8) xs

-- each byte of a number is where it was
offset_again : (a b : ℕ) → a < 2 ^ 8 → b < 2 ^ 8 → little_bytes 2 (cast_unsigned w16 (cast_signed w16 (little_from 0 2 (a ∷ b ∷ [])))) ≡ a ∷ b ∷ []
offset_again a b in_a in_b =
    let n : cast_unsigned w16 (cast_signed w16 (a + 256 * (b + 0))) ≡ a + 256 * b = of_z-to_z w16 (a + 256 * (b + 0)) (omega arith) ∙ (omega arith) in
    let low : (a + 256 * b) % 256 ≡ a = omega arith in
    let high : (a + 256 * b) / 256 % 256 ≡ b = omega arith in
    ap (little_bytes 2) n ∙ ap (λ x. x ∷ (a + 256 * b) / 256 % 256 ∷ []) low ∙ ap (λ x. a ∷ x ∷ []) high

imm_again : (a b c d : ℕ) → a < 2 ^ 8 → b < 2 ^ 8 → c < 2 ^ 8 → d < 2 ^ 8 → little_bytes 4 (cast_unsigned w32 (cast_signed w32 (little_from 0 4 (a ∷ b ∷ c ∷ d ∷ [])))) ≡ a ∷ b ∷ c ∷ d ∷ []
imm_again a b c d in_a in_b in_c in_d =
    let n : cast_unsigned w32 (cast_signed w32 (a + 256 * (b + 256 * (c + 256 * (d + 0))))) ≡ a + 256 * (b + 256 * (c + 256 * d)) = of_z-to_z w32 (a + 256 * (b + 256 * (c + 256 * (d + 0)))) (omega arith) ∙ (omega arith) in
    let e : (a + 256 * (b + 256 * (c + 256 * d))) % 256 ≡ a = omega arith in
    let f : (a + 256 * (b + 256 * (c + 256 * d))) / 256 % 256 ≡ b = omega arith in
    let g : (a + 256 * (b + 256 * (c + 256 * d))) / 65536 % 256 ≡ c = omega arith in
    let h : (a + 256 * (b + 256 * (c + 256 * d))) / 16777216 % 256 ≡ d = omega arith in
    ap (little_bytes 4) n ∙ cc

joined : {r s : ℕ} {xs ys zs ws : List ℕ} (opcode : ℕ) → r ≡ s → xs ≡ ys → zs ≡ ws → opcode ∷ r ∷ (xs ++ zs) ≡ opcode ∷ s ∷ (ys ++ ws)
joined opcode e f g = cc

-- what is read is written
pub slot_bytes-slot : (xs : List ℕ) → length xs ≡ 8 → AreBytes xs → slot_bytes (slot xs) ≡ xs
unfolding slot slot_bytes
slot_bytes-slot xs size are =
    let byte = All-from_recursion (λ b. b < 2 ^ 8) xs are in
    let registers : get_or xs 1 0 / 16 * 16 + get_or xs 1 0 % 16 ≡ get_or xs 1 0 = omega arith in
    let offset = offset_again (get_or xs 2 0) (get_or xs 3 0) (byte 2 0 (omega arith)) (byte 3 0 (omega arith)) in
    let imm = imm_again (get_or xs 4 0) (get_or xs 5 0) (get_or xs 6 0) (get_or xs 7 0) (byte 4 0 (omega arith)) (byte 5 0 (omega arith)) (byte 6 0 (omega arith)) (byte 7 0 (omega arith)) in
    joined (get_or xs 0 0) registers offset imm ∙ sym (eight xs size)
