-- Beginnings of one list.
use Rattle.std.proofs.Common.{◌≡◌, ◌≤◌, List, [], ◌∷◌, length, refl, ap, sym, ◌∙◌, arith, length-append}
use mathlib.Core.List.{IsPrefix}

pub length-starts : {A : Type 0} (xs ys : List A) → IsPrefix xs ys → length xs ≤ length ys
length-starts xs ys a = omega (arith, sym (ap length a.1) ∙ length-append xs a.0)

-- of two beginnings of one list the shorter begins the longer
pub starts_longer : {A : Type 0} (xs ys log : List A) → IsPrefix xs log → IsPrefix ys log → length xs ≤ length ys → IsPrefix xs ys
starts_longer [] ys log a b le = (ys, refl)
starts_longer (x ∷ xs) [] log a b le = absurd (omega arith)
starts_longer (x ∷ xs) (y ∷ ys) [] a b le = absurd (cc a.1)
starts_longer (x ∷ xs) (y ∷ ys) (z ∷ log) a b le =
    let heads : x ≡ y = cc (a.1, b.1) in
    let rest = starts_longer xs ys log (a.0, cc a.1) (b.0, cc b.1) (omega arith) in
    (rest.0, cc (heads, rest.1))

-- a beginning as long as the whole is the whole
pub starts_whole : {A : Type 0} (xs ys : List A) → IsPrefix xs ys → length ys ≤ length xs → xs ≡ ys
starts_whole [] [] a le = refl
starts_whole [] (y ∷ ys) a le = absurd (omega arith)
starts_whole (x ∷ xs) [] a le = absurd (cc a.1)
starts_whole (x ∷ xs) (y ∷ ys) a le =
    let rest = starts_whole xs ys (a.0, cc a.1) (omega arith) in cc (a.1, rest)
