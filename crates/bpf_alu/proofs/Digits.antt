-- The bitwise operators give the digits of the definition.
use Rattle.std.proofs.Common.{◌≡◌, ℕ, zero, suc, ◌+◌, ◌*◌, ◌/◌, ◌%◌, ◌^◌, ◌<◌, min, max, bit_and, bit_or, bit_xor, refl, sym, ◌∙◌, ap, ap₂, arith, pow-suc}
use Rattle.std.specs.Int.Bits.{and_step, or_step, xor_step, differ}
use Rattle.bpf_alu.specs.Numbers.{bitwise}

-- an operator that goes digit by digit, on numbers of n digits
bitwise_is : (f op : ℕ → ℕ → ℕ) → op 0 0 ≡ 0 → ((a b : ℕ) → op a b ≡ op (a / 2) (b / 2) * 2 + f (a % 2) (b % 2)) → (n a b : ℕ) → a < 2 ^ n → b < 2 ^ n → bitwise n f a b ≡ op a b
unfolding bitwise
bitwise_is f op none step zero a b p q =
    let a_none : 0 ≡ a = omega arith in let b_none : 0 ≡ b = omega arith in sym none ∙ ap₂ op a_none b_none
bitwise_is f op none step (suc n) a b p q =
    let a_half : a / 2 < 2 ^ n = omega (arith, pow-suc 2 n) in
    let b_half : b / 2 < 2 ^ n = omega (arith, pow-suc 2 n) in
    ap (λ rest. rest * 2 + f (a % 2) (b % 2)) (bitwise_is f op none step n (a / 2) (b / 2) a_half b_half) ∙ sym (step a b)

pub bitwise_and : (n a b : ℕ) → a < 2 ^ n → b < 2 ^ n → bitwise n min a b ≡ bit_and a b
bitwise_and = bitwise_is min bit_and refl and_step

pub bitwise_or : (n a b : ℕ) → a < 2 ^ n → b < 2 ^ n → bitwise n max a b ≡ bit_or a b
bitwise_or = bitwise_is max bit_or refl or_step

-- of two digits, `differ` is the sum modulo 2
differ_sum : (x y : ℕ) → x < 2 → y < 2 → differ x y ≡ (x + y) % 2
differ_sum zero y p q = omega arith
differ_sum (suc zero) zero p q = refl
differ_sum (suc zero) (suc y) p q = omega arith
differ_sum (suc (suc x)) y p q = absurd (omega arith)

pub bitwise_xor : (n a b : ℕ) → a < 2 ^ n → b < 2 ^ n → bitwise n (λ x y. (x + y) % 2) a b ≡ bit_xor a b
bitwise_xor =
    bitwise_is (λ x y. (x + y) % 2) bit_xor refl
    (λ a b. xor_step a b ∙ ap (λ d. bit_xor (a / 2) (b / 2) * 2 + d) (differ_sum (a % 2) (b % 2) (omega arith) (omega arith)))
