-- The words before the first `--`, word by word.
use Rattle.std.proofs.Common.{◌≡◌, ◌||◌, ◌<◌, ◌+◌, ℕ, Bool, cond, true, false, not, suc, List, [], ◌∷◌, length, drop, take, get_or, add-one, one-add, refl, sym, ap, ap₂, ◌∙◌, String, string_bytes, drop-cons}
use Rattle.std.specs.List.{list_any, prefix_len}
use Rattle.command_line.specs.Replay.{asks_replay, is_separator, wants_replay}
use Rattle.command_line.specs.Words.{Text, texts_of}

first_taken : (stops : Bool) (rest : ℕ) (word : Text) (words : List Text)
    → take (cond (not stops) (1 + rest) 0) (word ∷ words) ≡ cond stops [] (word ∷ take rest words)
first_taken true rest word words = refl
first_taken false rest word words = ap (λ n. take n (word ∷ words)) (one-add rest)

any_of : (stops : Bool) (word : Text) (rest : List Text)
    → list_any asks_replay (cond stops [] (word ∷ rest)) ≡ cond stops false (asks_replay word || list_any asks_replay rest)
any_of true word rest = refl
any_of false word rest = refl

wants_next : (word : Text) (words : List Text)
    → wants_replay (word ∷ words) ≡ cond (is_separator word) false (asks_replay word || wants_replay words)
unfolding wants_replay
wants_next word words =
    ap (list_any asks_replay) (first_taken (is_separator word) (prefix_len (λ w. not (is_separator w)) words) word words)
    ∙ any_of (is_separator word) word (take (prefix_len (λ w. not (is_separator w)) words) words)

module _ {A : Type 0} (words : List (String A)) (i : ℕ) (word : String A) (inside : i < length words) (here : word ≡ get_or words i word) where
  from_here : wants_replay (texts_of (drop i words))
      ≡ cond (is_separator (string_bytes word)) false (asks_replay (string_bytes word) || wants_replay (texts_of (drop (suc i) words)))
  from_here =
      ap (λ left. wants_replay (texts_of left)) (drop-cons words i word inside ∙ ap (λ w. w ∷ drop (suc i) words) (sym here))
      ∙ wants_next (string_bytes word) (texts_of (drop (suc i) words))

  -- the word doesn't decide
  pub passed : is_separator (string_bytes word) ≡ false → asks_replay (string_bytes word) ≡ false
      → wants_replay (texts_of (drop (i + 1) words)) ≡ wants_replay (texts_of (drop i words))
  passed goes_on asks_not =
      ap (λ n. wants_replay (texts_of (drop n words))) (add-one i)
      ∙ sym (from_here ∙ ap₂ (λ stops asks. cond stops false (asks || wants_replay (texts_of (drop (suc i) words)))) goes_on asks_not)

  pub asked : is_separator (string_bytes word) ≡ false → asks_replay (string_bytes word) ≡ true
      → wants_replay (texts_of (drop i words)) ≡ true
  asked goes_on asks =
      from_here ∙ ap₂ (λ stops asks. cond stops false (asks || wants_replay (texts_of (drop (suc i) words)))) goes_on asks

  pub stopped : is_separator (string_bytes word) ≡ true → wants_replay (texts_of (drop i words)) ≡ false
  stopped stops =
      from_here ∙ ap (λ b. cond b false (asks_replay (string_bytes word) || wants_replay (texts_of (drop (suc i) words)))) stops
