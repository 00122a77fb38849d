-- The words of a line.
use Rattle.std.specs.Prelude.{ℕ, ◌==◌, ◌&&◌, ◌||◌, Bool, nat_lt, nat_le, nat_eq, List, length, filter, codes}
use Rattle.std.specs.List.{slice_split, starts_with}

-- a space or a tab
abbrev pub is_blank : ℕ → Bool
is_blank b = (b == 32) || (b == 9)

-- the parts between blanks that aren't empty
abbrev pub words_of : List ℕ → List (List ℕ)
words_of line = filter (λ part. nat_lt 0 (length part)) (slice_split is_blank line)

-- a printable byte of ASCII, or a tab
abbrev pub is_printable : ℕ → Bool
is_printable b = (nat_le 32 b && nat_le b 126) || (b == 9)

-- a line whose first word is so is a comment
abbrev pub is_comment : List ℕ → Bool
is_comment word = starts_with nat_eq word (codes "#")

-- a word that names an option
abbrev pub is_option : List ℕ → Bool
is_option word = starts_with nat_eq word (codes "-")

-- the parts of a word between the separators, at least one
abbrev pub parts_of : ℕ → List ℕ → List (List ℕ)
parts_of separator word = slice_split (λ b. b == separator) word
