-- What one word of a command line is.
use Rattle.std.specs.Prelude.{ℕ, ◌==◌, ◌&&◌, not, List, map, Option, Some, None, Bool, codes, bytes_eq, drop, take, length, String, string_bytes, if◌then◌else◌}
use Rattle.std.specs.List.{list_any, before_first, after_first}

abbrev pub Text : Type 0
Text = List ℕ

abbrev pub texts_of : {A : Type 0} → List (String A) → List Text
texts_of words = map string_bytes words

pub data Word : Type 0 where
  -- `--`, behind which no word is an option
  separator : Word
  -- `--NAME`, or `--NAME=VALUE`
  named : Text → Option Text → Word
  -- another word that begins with `-`
  flag : Word
  -- `-`, or a word that doesn't begin with `-`
  plain : Word

abbrev pub begins_with : Text → Text → Bool
begins_with word start = bytes_eq start (take (length start) word)

-- The name stands before the first `=` (61). Where there is one, the value is what stands behind it.
abbrev pub name_and_value : Text → Word
name_and_value text = named (before_first (λ byte. byte == 61) text)
    (if list_any (λ byte. byte == 61) text then Some (after_first (λ byte. byte == 61) text) else None)

unfoldable pub word_of : Text → Word
word_of word =
    if bytes_eq word (codes "--") then separator
    else if begins_with word (codes "--") then name_and_value (drop 2 word)
    else if begins_with word (codes "-") && not (bytes_eq word (codes "-")) then flag
    else plain
