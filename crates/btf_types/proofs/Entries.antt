-- The entries of a type, one by one.
use Rattle.std.proofs.Common.{◌≡◌, ℕ, zero, suc, ◌+◌, ◌-◌, ◌*◌, ◌<◌, ◌≤◌, true, List, [], ◌∷◌, ◌++◌, map, append_assoc, drop, length, refl, ap, ◌∙◌, Bool, arith, length-drop}
use Rattle.std.proofs.Math.Nat.{mul-suc}
use Rattle.std.proofs.lemmas.List.Folds.{list_all-map}
use Rattle.std.specs.List.{list_all}
use Rattle.btf_types.specs.Kind.{ARRAY, entry_width, names_entries, tail_width}
use Rattle.btf_types.specs.TypeBytes.{IsWhole, entries_from, entry_count, kind_of, type_length}

-- kinds whose entries begin with a name have entries of four bytes at least
pub named_width : (kind : ℕ) → names_entries kind ≡ true → 4 ≤ entry_width kind
unfolding names_entries entry_width
named_width kind h = grind arith

-- where entries are left, the first stands in front
pub entries_from_more : (count width : ℕ) (bytes : List ℕ) → 0 < count → entries_from count width bytes ≡ bytes ∷ entries_from (count - 1) width (drop width bytes)
entries_from_more zero width bytes h = absurd (omega arith)
entries_from_more (suc n) width bytes h =
    let less : n ≡ suc n - 1 = omega arith in
    ap (λ k. bytes ∷ entries_from k width (drop width bytes)) less

-- behind an entry the others are there
pub others_fit : (count k width : ℕ) (bytes : List ℕ) → k < count → width * (count - k) ≤ length bytes → width * (count - (k + 1)) ≤ length (drop width bytes)
others_fit count k width bytes h fits =
    let one : count - k ≡ suc (count - (k + 1)) = omega arith in
    let split : width * (count - k) ≡ width * (count - (k + 1)) + width = ap (λ n. width * n) one ∙ mul-suc width (count - (k + 1)) in
    omega (arith, split, length-drop width bytes)

-- an entry that passes leaves it to the others
pub others_decide : (p : List ℕ → Bool) (count k width : ℕ) (bytes : List ℕ) → k < count → p bytes ≡ true → list_all p (entries_from (count - (k + 1)) width (drop width bytes)) ≡ list_all p (entries_from (count - k) width bytes)
others_decide p count k width bytes h passes =
    let one : count - k ≡ suc (count - (k + 1)) = omega arith in
    rw (one, passes) refl

-- an entry's part stands in front of those of the others
pub others_follow : {X : Type 0} (part : List ℕ → X) (parts : List X) (count k width : ℕ) (bytes : List ℕ) → k < count → (parts ++ part bytes ∷ []) ++ map part (entries_from (count - (k + 1)) width (drop width bytes)) ≡ parts ++ map part (entries_from (count - k) width bytes)
others_follow part parts count k width bytes h =
    let one : count - k ≡ suc (count - (k + 1)) = omega arith in
    rw (one, append_assoc) refl

-- all entries are there
pub entries_fit : (head : List ℕ) → IsWhole head → entry_width (kind_of head) * entry_count head ≤ length (drop 12 head)
unfolding type_length
entries_fit head h = omega (arith, h.tail, length-drop 12 head)

-- all of an array is there
pub array_fits : (head : List ℕ) → IsWhole head → kind_of head ≡ ARRAY → 24 ≤ length head
unfolding type_length tail_width
array_fits head h e = let tail = rw e at h.tail in omega (arith, tail)

pub ruleset for_loop = (entries_fit, entries_from_more)

pub ruleset for_names = (list_all-map, named_width)

pub ruleset for_references = (list_all-map, array_fits)
