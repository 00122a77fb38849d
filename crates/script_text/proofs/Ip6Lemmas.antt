-- The groups of an IPv6 address, and the place of `::`.
use Rattle.std.proofs.Common.{◌≡◌, ℕ, suc, ◌+◌, ◌-◌, ◌*◌, ◌^◌, ◌<◌, ◌≤◌, ◌==◌, ◌&&◌, false, List, [], ◌∷◌, length, drop, get_or, Option, Some, None, refl, sym, ◌∙◌, ap, arith, drop-cons, length-drop}
use Rattle.std.specs.Option.{option_map}
use Rattle.std.proofs.Math.Nat.{mul-le-mul, pow-le-pow_right}
use Rattle.std.proofs.lemmas.Nat.{pow-add}
use Rattle.std.proofs.lemmas.Bool.Decides.{nat_tests}
use Rattle.script_text.specs.Addresses.{Groups, groups_behind, gap_of}

-- one group more
pub group_room : (n g k : ℕ) → n < 65536 ^ k → g < 65536 → n * 65536 + g < 65536 ^ (k + 1)
group_room n g k small below =
    let next : 65536 ^ (k + 1) ≡ 65536 ^ k * 65536 = pow-add 65536 k 1 in
    omega arith

pub group_fits : (n g k : ℕ) → n < 65536 ^ k → g < 65536 → k < 8 → n * 65536 + g < 2 ^ 128
group_fits n g k small below few =
    let room = group_room n g k small below in
    let more : 65536 ^ (k + 1) ≤ 65536 ^ 8 = pow-le-pow_right {n = 65536} (omega arith) {i = k + 1} {j = 8} (omega arith) in
    omega arith

-- one group of zero more
pub raised_more : (n g c k : ℕ) → n ≡ g * 65536 ^ (k - c) → c ≤ k → n * 65536 ≡ g * 65536 ^ (k + 1 - c)
raised_more n g c k is low =
    let more : k + 1 - c ≡ k - c + 1 = omega arith in
    let add : 65536 ^ (k - c + 1) ≡ 65536 ^ (k - c) * 65536 = pow-add 65536 (k - c) 1 in
    rw (more, is, add) (grind arith)

-- the groups on both sides of `::`
pub sides_fit : (h c l m : ℕ) → h < 65536 ^ c → l < 65536 ^ m → c + m < 8 → h * 65536 ^ (8 - c) + l < 2 ^ 128
sides_fit h c l m high low few =
    let all : (h + 1) * 65536 ^ (8 - c) ≤ 65536 ^ c * 65536 ^ (8 - c) = mul-le-mul (omega arith) (omega arith) in
    let eight : c + (8 - c) ≡ 8 = omega arith in
    let whole : 65536 ^ c * 65536 ^ (8 - c) ≡ 65536 ^ 8 = sym (pow-add 65536 c (8 - c)) ∙ ap (λ n. 65536 ^ n) eight in
    let split : (h + 1) * 65536 ^ (8 - c) ≡ h * 65536 ^ (8 - c) + 65536 ^ (8 - c) = grind arith in
    let less : 65536 ^ m ≤ 65536 ^ (8 - c) = pow-le-pow_right {n = 65536} (omega arith) {i = m} {j = 8 - c} (omega arith) in
    omega arith

-- a ninth group
pub groups_full : (groups : Groups) (parts : List (List ℕ)) → groups.count ≡ 8 → 0 < length parts → groups_behind groups parts ≡ None
groups_full groups [] full some = absurd (omega arith)
groups_full groups (part ∷ parts) full some = grind (arith, nat_tests, full)

gap_of-on : (text : List ℕ) (k : ℕ) → k + 1 < length text → ((get_or text k 0 == 58) && (get_or text (k + 1) 0 == 58)) ≡ false
    → gap_of (drop k text) ≡ option_map (λ place. place + 1) (gap_of (drop (k + 1) text))
gap_of-on text k within other =
    let one : suc k ≡ k + 1 = omega arith in
    let two : suc (k + 1) ≡ k + 2 = omega arith in
    let next : drop (k + 1) text ≡ get_or text (k + 1) 0 ∷ drop (k + 2) text =
    drop-cons text (k + 1) 0 within ∙ ap (λ n. get_or text (k + 1) 0 ∷ drop n text) two in
    let here : drop k text ≡ get_or text k 0 ∷ get_or text (k + 1) 0 ∷ drop (k + 2) text =
    drop-cons text k 0 (omega arith) ∙ ap (λ n. get_or text k 0 ∷ drop n text) one ∙ ap (λ xs. get_or text k 0 ∷ xs) next in
    rw (here, next, other) refl

shifted : (place : Option ℕ) (b : ℕ) → 1 ≤ b → option_map (λ p. p + (b - 1)) (option_map (λ p. p + 1) place) ≡ option_map (λ p. p + (b + 1 - 1)) place
shifted None b some = refl
shifted (Some p) b some = ap Some (omega arith)

-- two bytes that are no `::`
pub gap_passed : (text : List ℕ) (b : ℕ) → 1 ≤ b → b < length text → ((get_or text (b - 1) 0 == 58) && (get_or text b 0 == 58)) ≡ false
    → gap_of text ≡ option_map (λ p. p + (b - 1)) (gap_of (drop (b - 1) text))
    → gap_of text ≡ option_map (λ p. p + (b + 1 - 1)) (gap_of (drop (b + 1 - 1) text))
gap_passed text b some within other so_far =
    let back : b - 1 + 1 ≡ b = omega arith in
    let on : gap_of (drop (b - 1) text) ≡ option_map (λ place. place + 1) (gap_of (drop b text)) =
    rw back at (gap_of-on text (b - 1) (omega arith) (rw back other)) in
    let same : b + 1 - 1 ≡ b = omega arith in
    so_far ∙ ap (option_map (λ p. p + (b - 1))) on ∙ shifted (gap_of (drop b text)) b some ∙ ap (λ n. option_map (λ p. p + (b + 1 - 1)) (gap_of (drop n text))) (sym same)

short_gap : (text : List ℕ) → length text ≤ 1 → gap_of text ≡ None
short_gap [] few = refl
short_gap (a ∷ []) few = refl
short_gap (a ∷ b ∷ more) few = absurd (omega arith)

-- fewer than two bytes are left
pub gap_none : (text : List ℕ) (b : ℕ) → length text ≤ b
    → gap_of text ≡ option_map (λ p. p + (b - 1)) (gap_of (drop (b - 1) text)) → gap_of text ≡ None
gap_none text b end so_far =
    let none = short_gap (drop (b - 1) text) (omega (arith, length-drop (b - 1) text)) in
    so_far ∙ ap (option_map (λ p. p + (b - 1))) none
