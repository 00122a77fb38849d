-- The parts of a word, from the first separator.
use Rattle.std.proofs.Common.{◌≡◌, ℕ, ◌+◌, ◌<◌, ◌≤◌, ◌==◌, Bool, List, [], ◌∷◌, length, take, drop, Some, None, subst, arith}
use Rattle.std.specs.Prelude.{position}
use Rattle.std.specs.List.{slice_split, position_or_len}
use Rattle.std.proofs.lemmas.List.Splits.{slice_split_first}
use Rattle.std.proofs.lemmas.Option.{cond_some}
use Rattle.script_text.proofs.LineLemmas.{slice_split_whole}
use Rattle.script_text.specs.Words.{parts_of}

pub parts_front : (separator : ℕ) (word : List ℕ) (n : ℕ) → position (λ b. b == separator) word ≡ Some n
    → parts_of separator word ≡ take n word ∷ parts_of separator (drop (n + 1) word)
parts_front separator word n found =
    let is_end : ℕ → Bool = λ b. b == separator in
    let place = cond_some _ _ n found in
    let before : position_or_len is_end word < length word = grind (arith, place) in
    subst (λ (m : ℕ). slice_split is_end word ≡ take m word ∷ slice_split is_end (drop (m + 1) word)) place.1 (slice_split_first is_end word 0 before)

pub parts_whole : (separator : ℕ) (word : List ℕ) → position (λ b. b == separator) word ≡ None → parts_of separator word ≡ word ∷ []
parts_whole separator word none =
    let whole : length word ≤ position_or_len (λ b. b == separator) word = grind (arith, none) in
    slice_split_whole (λ b. b == separator) word whole
