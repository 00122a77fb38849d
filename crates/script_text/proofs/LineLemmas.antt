-- The lines of a text, from the first line feed.
use Rattle.std.proofs.Common.{◌≡◌, ℕ, ◌+◌, ◌<◌, ◌≤◌, ◌==◌, Bool, List, [], ◌∷◌, length, take, drop, Some, None, refl, ◌∙◌, ap, subst, inl, inr, arith}
use Rattle.std.specs.Prelude.{position}
use Rattle.std.specs.List.{slice_split, onto_first, position_or_len}
use Rattle.std.specs.Str.Lines.{lines, lines_of_parts, strip_carriage_return}
use Rattle.std.proofs.lemmas.Bool.{cases_Bool}
use Rattle.std.proofs.lemmas.List.Splits.{slice_split_first, length-slice_split, slice_split-cons_no}
use Rattle.std.proofs.lemmas.Option.{cond_some}

-- where no element passes, the list is the one part
pub slice_split_whole : {X : Type 0} (p : X → Bool) (xs : List X) → length xs ≤ position_or_len p xs → slice_split p xs ≡ xs ∷ []
slice_split_whole p [] h = refl
slice_split_whole p (x ∷ xs) h =
    elim (cases_Bool (p x)) [
      | inl passes ↦ absurd (grind (arith, h))
      | inr fails ↦
          let more : length xs ≤ position_or_len p xs = grind (arith, h) in
          slice_split-cons_no p x xs fails ∙ ap (onto_first x) (slice_split_whole p xs more)
    ]

-- a part in front of others is a line that ended
lines_of_parts-cons : (part : List ℕ) (parts : List (List ℕ)) → 0 < length parts → lines_of_parts (part ∷ parts) ≡ strip_carriage_return part ∷ lines_of_parts parts
lines_of_parts-cons part [] h = absurd (omega arith)
lines_of_parts-cons part (next ∷ parts) h = refl

-- a text with a line feed is the line before it, and the lines behind it
pub lines_feed : (bytes : List ℕ) (n : ℕ) → position (λ b. b == 10) bytes ≡ Some n
    → (n < length bytes) × (lines bytes ≡ strip_carriage_return (take n bytes) ∷ lines (drop (n + 1) bytes))
lines_feed bytes n found =
    let is_feed : ℕ → Bool = λ b. b == 10 in
    let place = cond_some _ _ n found in
    let before : position_or_len is_feed bytes < length bytes = grind (arith, place) in
    let parts : slice_split is_feed bytes ≡ take n bytes ∷ slice_split is_feed (drop (n + 1) bytes) =
    subst (λ (m : ℕ). slice_split is_feed bytes ≡ take m bytes ∷ slice_split is_feed (drop (m + 1) bytes)) place.1 (slice_split_first is_feed bytes 0 before) in (
      grind (arith, place),
      ap lines_of_parts parts ∙ lines_of_parts-cons (take n bytes) _ (omega (arith, length-slice_split is_feed (drop (n + 1) bytes))),
    )

-- a text with no line feed is one line
pub lines_no_feed : (bytes : List ℕ) → position (λ b. b == 10) bytes ≡ None → 0 < length bytes → lines bytes ≡ bytes ∷ []
lines_no_feed [] none some = absurd (omega arith)
lines_no_feed (b ∷ bytes) none some =
    let whole : length (b ∷ bytes) ≤ position_or_len (λ c. c == 10) (b ∷ bytes) = grind (arith, none) in
    let one : lines_of_parts ((b ∷ bytes) ∷ []) ≡ (b ∷ bytes) ∷ [] = grind arith in
    ap lines_of_parts (slice_split_whole (λ c. c == 10) (b ∷ bytes) whole) ∙ one
