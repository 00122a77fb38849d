-- The words of a line, from the first byte that is no blank.
use Rattle.std.proofs.Common.{◌≡◌, ℕ, suc, ◌+◌, ◌<◌, ◌≤◌, Bool, true, false, not, List, [], ◌∷◌, length, take, drop, get_or, Some, None, refl, sym, ◌∙◌, ap, subst, inl, inr, arith, drop-cons, add-one}
use Rattle.std.specs.Prelude.{position, filter, nat_lt}
use Rattle.std.specs.List.{slice_split, position_or_len}
use Rattle.std.proofs.Math.ListN.{drop_of_length-le}
use Rattle.std.proofs.lemmas.Bool.{cases_Bool}
use Rattle.std.proofs.lemmas.List.{length-take-le}
use Rattle.std.proofs.lemmas.List.Splits.{slice_split_first, slice_split-cons_yes}
use Rattle.std.proofs.lemmas.List.Sums.{prefix_len_stops}
use Rattle.std.proofs.lemmas.Option.{cond_some}
use Rattle.script_text.specs.Words.{is_blank, words_of}
use Rattle.script_text.proofs.LineLemmas.{slice_split_whole}

abbrev pub is_inked : ℕ → Bool
is_inked b = not (is_blank b)

abbrev words_among : List (List ℕ) → List (List ℕ)
words_among parts = filter (λ part. nat_lt 0 (length part)) parts

-- a blank in front is passed over
words_of-blank : (b : ℕ) (line : List ℕ) → is_blank b ≡ true → words_of (b ∷ line) ≡ words_of line
words_of-blank b line blank = ap words_among (slice_split-cons_yes is_blank b line blank)

-- so are all blanks in front
words_of_past : (line : List ℕ) → words_of line ≡ words_of (drop (position_or_len is_inked line) line)
words_of_past [] = refl
words_of_past (b ∷ line) =
    elim (cases_Bool (is_blank b)) [
      | inl blank ↦
          let next : suc (position_or_len is_inked line) ≡ position_or_len is_inked (b ∷ line) = grind arith in
          words_of-blank b line blank ∙ words_of_past line ∙ ap (λ n. words_of (drop n (b ∷ line))) next
      | inr inked ↦
          let here : 0 ≡ position_or_len is_inked (b ∷ line) = grind arith in
          ap (λ n. words_of (drop n (b ∷ line))) here
    ]

-- a line of blanks has no word
pub words_of_blanks : (line : List ℕ) → position is_inked line ≡ None → words_of line ≡ []
words_of_blanks line none =
    let all : length line ≤ position_or_len is_inked line = grind (arith, none) in
    words_of_past line ∙ ap words_of (drop_of_length-le line all)

-- parts, of which the first is no empty one
words_among-cons : (part : List ℕ) (parts : List (List ℕ)) → 0 < length part → words_among (part ∷ parts) ≡ part ∷ words_among parts
words_among-cons part parts some = grind arith

-- a word in front of the end
words_of_whole : (b : ℕ) (line : List ℕ) → position is_blank (b ∷ line) ≡ None → words_of (b ∷ line) ≡ (b ∷ line) ∷ []
words_of_whole b line none =
    let whole : length (b ∷ line) ≤ position_or_len is_blank (b ∷ line) = grind (arith, none) in
    ap words_among (slice_split_whole is_blank (b ∷ line) whole) ∙ words_among-cons (b ∷ line) [] (omega arith)

-- what stands behind a word begins with a blank
words_of_rest : (line : List ℕ) (n : ℕ) → n < length line → position_or_len is_blank line ≡ n → words_of (drop n line) ≡ words_of (drop (n + 1) line)
words_of_rest line n within here =
    let stops : position_or_len is_blank line < length line = omega arith in
    let blank : is_blank (get_or line n 0) ≡ true = grind (arith, prefix_len_stops is_inked line 0 stops) in
    rw (drop-cons line n 0, add-one) (words_of-blank (get_or line n 0) (drop (suc n) line) blank)

-- a word in front of a blank
words_of_front : (b : ℕ) (line : List ℕ) (n : ℕ) → is_blank b ≡ false → position is_blank (b ∷ line) ≡ Some n
    → words_of (b ∷ line) ≡ take n (b ∷ line) ∷ words_of (drop n (b ∷ line))
words_of_front b line n inked found =
    let place = cond_some _ _ n found in
    let within : n < length (b ∷ line) = grind (arith, place) in
    let some : 0 < n = grind (arith, place) in
    let before : position_or_len is_blank (b ∷ line) < length (b ∷ line) = grind (arith, place) in
    let parts : slice_split is_blank (b ∷ line) ≡ take n (b ∷ line) ∷ slice_split is_blank (drop (n + 1) (b ∷ line)) =
    subst (λ (m : ℕ). slice_split is_blank (b ∷ line) ≡ take m (b ∷ line) ∷ slice_split is_blank (drop (m + 1) (b ∷ line))) place.1
    (slice_split_first is_blank (b ∷ line) 0 before) in
    let full : 0 < length (take n (b ∷ line)) = omega (arith, length-take-le n (b ∷ line) (omega arith)) in
    ap words_among parts ∙ words_among-cons (take n (b ∷ line)) (slice_split is_blank (drop (n + 1) (b ∷ line))) full
    ∙ ap (λ words. take n (b ∷ line) ∷ words) (sym (words_of_rest (b ∷ line) n within place.1))

-- a line from its first byte that is no blank
record Starts (line : List ℕ) (start : ℕ) : Type 0 where
  words : words_of line ≡ words_of (drop start line)
  head : drop start line ≡ get_or line start 0 ∷ drop (suc start) line
  inked : is_blank (get_or line start 0) ≡ false

starts_at : (line : List ℕ) (start : ℕ) → position is_inked line ≡ Some start → Starts line start
starts_at line start found =
    let place = cond_some _ _ start found in
    let within : start < length line = grind (arith, place) in
    let before : position_or_len is_inked line < length line = grind (arith, place) in
    let stops = prefix_len_stops (λ b. not (is_inked b)) line 0 before in
    record {
      words = words_of_past line ∙ ap (λ n. words_of (drop n line)) place.1;
      head = drop-cons line start 0 within;
      inked = grind (arith, place, stops);
    }

-- the first word and what stands behind it
pub first_word : (line : List ℕ) (start end : ℕ) → position is_inked line ≡ Some start → position is_blank (drop start line) ≡ Some end
    → words_of line ≡ take end (drop start line) ∷ words_of (drop end (drop start line))
first_word line start end found ends =
    let from = starts_at line start found in
    from.words ∙ rw from.head (words_of_front _ _ end from.inked (rw from.head at ends))

-- the last word
pub last_word : (line : List ℕ) (start : ℕ) → position is_inked line ≡ Some start → position is_blank (drop start line) ≡ None
    → words_of line ≡ drop start line ∷ []
last_word line start found ends =
    let from = starts_at line start found in
    from.words ∙ rw from.head (words_of_whole _ _ (rw from.head at ends))
