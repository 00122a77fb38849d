-- All eight bytes reversed, shifted down, are the low bytes reversed.
use Rattle.std.proofs.Common.{◌≡◌, ℕ, zero, suc, ◌+◌, ◌-◌, ◌*◌, ◌/◌, ◌%◌, ◌^◌, ◌<◌, ◌≤◌, List, [], ◌∷◌, ◌++◌, length, reverse, refl, sym, ◌∙◌, ap, arith, pow-suc, suc-add, zero-add, div-one, mul-le-mul_left, inl, inr, ◌⊎◌}
use Rattle.std.specs.Int.{swap_bytes, w64}
use Rattle.std.proofs.Math.Nat.{div-div-eq-div-mul, pow-succ'}
use Rattle.std.proofs.lemmas.List.{reverse-append, length-reverse}
use Rattle.std.proofs.lemmas.Nat.{pow-add, div-mul-add}
use Rattle.bpf_alu.specs.Order.{bytes_of, number_of}

-- the k low bytes of x, read from the other end
abbrev pub backward : ℕ → ℕ → ℕ
backward k x = number_of (reverse (bytes_of k x))

length-bytes_of : (k x : ℕ) → length (bytes_of k x) ≡ k
unfolding bytes_of
length-bytes_of zero x = refl
length-bytes_of (suc k) x = ap suc (length-bytes_of k (x / 256))

number_of-append : (xs ys : List ℕ) → number_of (xs ++ ys) ≡ number_of xs + 256 ^ length xs * number_of ys
unfolding number_of
number_of-append [] ys = omega arith
number_of-append (x ∷ xs) ys = rw (number_of-append xs ys, pow-suc 256 (length xs)) (omega arith)

-- the lowest byte becomes the highest
backward-suc : (k x : ℕ) → backward (suc k) x ≡ backward k (x / 256) + 256 ^ k * (x % 256)
unfolding bytes_of number_of
backward-suc k x =
    let places : length (reverse (bytes_of k (x / 256))) ≡ k = length-reverse (bytes_of k (x / 256)) ∙ length-bytes_of k (x / 256) in
    ap number_of (reverse-append (x % 256 ∷ []) (bytes_of k (x / 256)))
    ∙ number_of-append (reverse (bytes_of k (x / 256))) (x % 256 ∷ [])
    ∙ rw places (omega arith)

backward_below : (k x : ℕ) → backward k x < 256 ^ k
unfolding bytes_of number_of
backward_below zero x = omega arith
backward_below (suc k) x =
    let digit : x % 256 ≤ 255 = omega arith in
    rw (backward-suc k x, pow-suc 256 k) (omega (arith, backward_below k (x / 256), mul-le-mul_left (256 ^ k) digit))

backward-split : (k j x : ℕ) → backward (k + j) x ≡ backward k x * 256 ^ j + backward j (x / 256 ^ k)
unfolding bytes_of number_of
backward-split zero j x = rw (zero-add j, div-one x) (omega arith)
backward-split (suc k) j x =
    rw (suc-add k j, backward-suc (k + j) x, backward-split k j (x / 256), backward-suc k x, div-div-eq-div-mul x 256 (256 ^ k), sym (pow-succ' 256 k), pow-add 256 k j)
    (omega arith)

pub backward_by_shift : (k j x : ℕ) → backward (k + j) x / 256 ^ j ≡ backward k x
backward_by_shift k j x = rw (backward-split k j x) (div-mul-add (backward k x) (256 ^ j) (backward j (x / 256 ^ k)) (backward_below j (x / 256 ^ k)))

all_bytes : (x : ℕ) → backward 8 x ≡ swap_bytes w64 x
unfolding bytes_of number_of
all_bytes x = simp div-div-eq-div-mul (omega arith)

pub low_bytes : (bits x : ℕ) → (bits ≡ 16) ⊎ ((bits ≡ 32) ⊎ (bits ≡ 64)) → backward (bits / 8) x ≡ swap_bytes w64 x / 2 ^ (64 - bits)
low_bytes bits x (inl e) = rw (e, sym (all_bytes x)) (sym (backward_by_shift 2 6 x))
low_bytes bits x (inr (inl e)) = rw (e, sym (all_bytes x)) (sym (backward_by_shift 4 4 x))
low_bytes bits x (inr (inr e)) = rw (e, sym (all_bytes x)) (sym (backward_by_shift 8 0 x))
