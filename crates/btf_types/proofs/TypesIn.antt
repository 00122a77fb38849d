-- The walk over the types of a section, type by type.
use Rattle.std.proofs.Common.{◌≡◌, ℕ, zero, suc, ◌+◌, ◌-◌, ◌<◌, ◌≤◌, Bool, nat_lt, nat_le, true, false, List, [], ◌∷◌, ◌++◌, map, drop, length, Some, None, refl, ap, sym, ◌∙◌, arith}
use Rattle.std.specs.List.{flat_map, list_all, AllByRecursion}
use Rattle.btf_types.specs.declared.bad_btf.BadBtf.{BadBtf}
use Rattle.btf_types.specs.TypeBytes.{IsWhole, type_length}
use Rattle.btf_types.specs.Sections.{types_behind, types_in}
use Rattle.btf_types.specs.Breaks.{first_broken}

-- rules that aren't broken leave it to those behind them
pub first_broken-append_none : (xs ys : List (Bool × BadBtf)) → first_broken xs ≡ None → first_broken (xs ++ ys) ≡ first_broken ys
first_broken-append_none [] ys h = refl
first_broken-append_none ((true, bad) ∷ xs) ys h = cc
first_broken-append_none ((false, bad) ∷ xs) ys h = first_broken-append_none xs ys h

pub first_broken-append_some : (xs ys : List (Bool × BadBtf)) (bad : BadBtf) → first_broken xs ≡ Some bad → first_broken (xs ++ ys) ≡ Some bad
first_broken-append_some [] ys bad h = cc
first_broken-append_some ((true, b) ∷ xs) ys bad h = h
first_broken-append_some ((false, b) ∷ xs) ys bad h = first_broken-append_some xs ys bad h

-- a type has twelve bytes at least
pub type_length_some : (head : List ℕ) → 12 ≤ type_length head
unfolding type_length
type_length_some head = omega arith

-- passed bytes are dropped
types_behind-drop : (passed : ℕ) (bytes : List ℕ) → types_behind passed bytes ≡ types_in (drop passed bytes)
types_behind-drop zero bytes = refl
types_behind-drop (suc passed) [] = refl
types_behind-drop (suc passed) (b ∷ bytes) = types_behind-drop passed bytes

-- the first type, and those behind its bytes
pub types_in_more : (bytes : List ℕ) → 0 < length bytes → types_in bytes ≡ bytes ∷ types_in (drop (type_length bytes) bytes)
types_in_more [] h = absurd (omega arith)
types_in_more (b ∷ bytes) h =
    let some : type_length (b ∷ bytes) ≡ suc (type_length (b ∷ bytes) - 1) = omega (arith, type_length_some (b ∷ bytes)) in
    ap (λ types. (b ∷ bytes) ∷ types) (types_behind-drop (type_length (b ∷ bytes) - 1) bytes ∙ ap (λ n. types_in (drop n (b ∷ bytes))) (sym some))

-- a section's first type is whole, and so are those behind it, where all are
pub whole_more : (bytes : List ℕ) → 0 < length bytes → AllByRecursion IsWhole (types_in bytes) → IsWhole bytes × AllByRecursion IsWhole (types_in (drop (type_length bytes) bytes))
whole_more bytes h all = rw (types_in_more bytes h) at all

-- there are no types in no bytes
pub types_in_none : (bytes : List ℕ) → length bytes ≡ 0 → types_in bytes ≡ []
types_in_none [] h = refl
types_in_none (b ∷ bytes) h = absurd (omega arith)

-- a rule on each type goes on behind a type that keeps it
pub keeps_more : (rule : List ℕ → Bool × BadBtf) (bytes : List ℕ) → 0 < length bytes → (rule bytes).0 ≡ false → first_broken (map rule (types_in (drop (type_length bytes) bytes))) ≡ first_broken (map rule (types_in bytes))
keeps_more rule bytes h kept = rw (types_in_more bytes h, kept) refl

-- and ends at a type that breaks it
pub breaks_here : (rule : List ℕ → Bool × BadBtf) (bytes : List ℕ) → 0 < length bytes → (rule bytes).0 ≡ true → first_broken (map rule (types_in bytes)) ≡ Some (rule bytes).1
breaks_here rule bytes h broken = rw (types_in_more bytes h, broken) refl

-- the same for several rules on each type
pub keep_more : (rules : List ℕ → List (Bool × BadBtf)) (bytes : List ℕ) → 0 < length bytes → first_broken (rules bytes) ≡ None → first_broken (flat_map rules (types_in (drop (type_length bytes) bytes))) ≡ first_broken (flat_map rules (types_in bytes))
keep_more rules bytes h kept =
    let split = ap (λ types. first_broken (flat_map rules types)) (types_in_more bytes h) in
    sym (split ∙ first_broken-append_none (rules bytes) _ kept)

pub break_here : (rules : List ℕ → List (Bool × BadBtf)) (bytes : List ℕ) (bad : BadBtf) → 0 < length bytes → first_broken (rules bytes) ≡ Some bad → first_broken (flat_map rules (types_in bytes)) ≡ Some bad
break_here rules bytes bad h broken =
    let split = ap (λ types. first_broken (flat_map rules types)) (types_in_more bytes h) in
    split ∙ first_broken-append_some (rules bytes) _ bad broken

-- below the next number is at most this one
pub below_next : (n : ℕ) (xs : List ℕ) → list_all (λ x. nat_lt x (n + 1)) xs ≡ list_all (λ x. nat_le x n) xs
below_next n [] = refl
below_next n (x ∷ xs) =
    let one : nat_lt x (n + 1) ≡ nat_le x n = grind arith in
    rw (one, below_next n xs) refl

pub ruleset in_order = (types_in_more, types_in_none, type_length_some)
