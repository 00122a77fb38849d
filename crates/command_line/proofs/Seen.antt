-- What `clap` sees of a word, by what the word is.
use Rattle.std.proofs.Common.{◌≡◌, ◌<◌, ◌==◌, ℕ, Bool, true, false, List, [], ◌∷◌, Some, None, drop, length, get_or, refl, sym, ap, ◌∙◌, arith, IsUtf8, slice_get}
use Rattle.std.specs.Str.{bytes_eq, chars}
use Rattle.std.proofs.lemmas.Bool.Decides.{nat_tests}
use Rattle.std.proofs.lemmas.Str.{IsUtf8-drop, IsCharBoundary-after_ascii, encodes-chars}
use Rattle.clap.specs.Lexer.{long_of, short_of}
use Rattle.command_line.specs.Words.{Text, Word, separator, named, flag, plain, word_of}

abbrev pub hyphens : Text
hyphens = 45 ∷ 45 ∷ []

abbrev pub IsSeen : Text → Word → Type 0
IsSeen word separator = bytes_eq word hyphens ≡ true
IsSeen word (named name value) = (bytes_eq word hyphens ≡ false) × (long_of word ≡ Some (name, value))
IsSeen word flag = (bytes_eq word hyphens ≡ false) × (long_of word ≡ None) × (short_of word ≡ Some (drop 1 word))
    × (get_or word 0 0 ≡ 45) × (1 < length word)
IsSeen word plain = (bytes_eq word hyphens ≡ false) × (long_of word ≡ None) × (short_of word ≡ None)

flipped : (x : ℕ) (b : Bool) → (x == 45) ≡ b → (45 == x) ≡ b
flipped x true e = grind (arith, nat_tests)
flipped x false e = grind (arith, nat_tests)

is_hyphen : (x : ℕ) → (x == 45) ≡ true → x ≡ 45
is_hyphen x e = grind (arith, nat_tests)

one_byte : (x : ℕ) (b : Bool) → (x == 45) ≡ b → IsSeen (x ∷ []) (word_of (x ∷ []))
unfolding word_of
one_byte x true e = rw (e, flipped x true e) (rw e refl, rw e refl, rw e refl)
one_byte x false e = rw (e, flipped x false e) (rw e refl, rw e refl, rw e refl)

two_bytes : (x y : ℕ) (b d : Bool) → (x == 45) ≡ b → (y == 45) ≡ d → IsSeen (x ∷ y ∷ []) (word_of (x ∷ y ∷ []))
unfolding word_of
two_bytes x y true true ex ey = rw (ex, ey) (rw (ex, ey) refl)
two_bytes x y true false ex ey = rw (ex, ey, flipped x true ex, flipped y false ey)
    (rw (ex, ey) refl, rw (ex, ey) refl, rw (ex, ey) refl, is_hyphen x ex, omega arith)
two_bytes x y false d ex ey = rw (ex, flipped x false ex) (rw ex refl, rw ex refl, rw ex refl)

more_bytes : (x y z : ℕ) (rest : Text) (b d : Bool) → (x == 45) ≡ b → (y == 45) ≡ d
    → IsSeen (x ∷ y ∷ z ∷ rest) (word_of (x ∷ y ∷ z ∷ rest))
unfolding word_of
more_bytes x y z rest true true ex ey = rw (ex, ey, flipped x true ex, flipped y true ey) (rw (ex, ey) refl, rw (ex, ey) refl)
more_bytes x y z rest true false ex ey = rw (ex, ey, flipped x true ex, flipped y false ey)
    (rw (ex, ey) refl, rw (ex, ey) refl, rw (ex, ey) refl, is_hyphen x ex, omega arith)
more_bytes x y z rest false d ex ey = rw (ex, flipped x false ex) (rw ex refl, rw ex refl, rw ex refl)

pub seen : (word : Text) → IsSeen word (word_of word)
unfolding word_of
seen [] = (refl, refl, refl)
seen (x ∷ []) = one_byte x (x == 45) refl
seen (x ∷ y ∷ []) = two_bytes x y (x == 45) (y == 45) refl refl
seen (x ∷ y ∷ z ∷ rest) = more_bytes x y z rest (x == 45) (y == 45) refl refl

-- behind the hyphen of a flag stands a character
no_char : (flags : Text) → chars flags ≡ [] → IsUtf8 flags → 0 < length flags → ⊥
no_char flags none utf8 some =
    let empty : [] ≡ flags = ap Rattle.std.specs.Str.encode_utf8_all (sym none) ∙ encodes-chars flags utf8 in
    let short : 0 ≡ length flags = ap length empty in
    omega arith

first_char : (flags : Text) (cs : List ℕ) → chars flags ≡ cs → IsUtf8 flags → 0 < length flags
    → (c : ℕ) × (slice_get (chars flags) 0 ≡ Some c)
first_char flags [] is utf8 some = absurd (no_char flags is utf8 some)
first_char flags (c ∷ cs) is utf8 some = (c, ap (λ list. slice_get list 0) is)

pub behind : (text : Text) → 1 < length text → 0 < length (drop 1 text)
behind [] long = absurd (omega arith)
behind (x ∷ xs) long = omega arith

pub flag_char : (word : Text) → IsUtf8 word → get_or word 0 0 ≡ 45 → 1 < length word
    → (c : ℕ) × (slice_get (chars (drop 1 word)) 0 ≡ Some c)
flag_char word utf8 hyphen long =
    first_char (drop 1 word) (chars (drop 1 word)) refl
    (IsUtf8-drop word 1 utf8 (IsCharBoundary-after_ascii word 0 utf8 (omega arith) (omega arith)))
    (behind word long)
