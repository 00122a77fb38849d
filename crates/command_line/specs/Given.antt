-- What the words of a command line give, and which of that is taken.
use Rattle.std.specs.Prelude.{◌&&◌, Bool, true, false, not, List, [], ◌∷◌, map, Option, Some, None, codes, bytes_eq, if◌then◌else◌}
use Rattle.std.specs.List.{list_all, list_any}
use Rattle.command_line.specs.Words.{Text, Word, separator, named, flag, plain, word_of}

pub data Given : Type 0 where
  -- a name and its value, by `--NAME VALUE` or `--NAME=VALUE`
  option : Text → Text → Given
  -- a word that stands for itself
  positional : Text → Given
  -- a flag, or a name without a value: no word behind it is read
  refused : Given

-- a word that is no option's value, and what the words behind it give, where the last of them may be a name without a value
abbrev pub given_at : Word → Text → List Text → (Option Text → List Given) → List Given
given_at separator word words behind = map positional words
given_at (named name (Some value)) word words behind = option name value ∷ behind None
given_at (named name None) word words behind = behind (Some name)
given_at flag word words behind = refused ∷ []
given_at plain word words behind = positional word ∷ behind None

-- the word behind `--NAME`, which is its value unless it is an option itself
abbrev pub value_at : Word → Text → Text → (Option Text → List Given) → List Given
value_at plain name word behind = option name word ∷ behind None
value_at _ name word behind = refused ∷ []

-- what the words give, in their order; before them may stand a name without a value
unfoldable pub given_behind : List Text → Option Text → List Given
given_behind [] None = []
given_behind [] (Some name) = refused ∷ []
given_behind (word ∷ words) None = given_at (word_of word) word words (given_behind words)
given_behind (word ∷ words) (Some name) = value_at (word_of word) name word (given_behind words)

abbrev pub given_by : List Text → List Given
given_by words = given_behind words None

-- ---- what is taken

abbrev pub option_names : List Text
option_names = codes "capture" ∷ codes "trace" ∷ codes "replay" ∷ []

abbrev pub is_option : Text → Bool
is_option name = list_any (λ known. bytes_eq known name) option_names

abbrev pub is_known : Given → Bool
is_known (option name value) = is_option name
is_known (positional word) = true
is_known refused = false

-- both are the same option, or both are positional
abbrev pub is_again : Given → Given → Bool
is_again (option first _) (option name _) = bytes_eq first name
is_again (positional _) (positional _) = true
is_again _ _ = false

-- no option stands twice, and no second positional word
abbrev pub are_single : List Given → Bool
are_single [] = true
are_single (given ∷ rest) = not (list_any (is_again given) rest) && are_single rest

abbrev pub are_taken : List Given → Bool
are_taken given = list_all is_known given && are_single given

-- ---- values

abbrev pub value_of : Text → List Given → Option Text
value_of name [] = None
value_of name (option other value ∷ rest) = if bytes_eq other name then Some value else value_of name rest
value_of name (_ ∷ rest) = value_of name rest

abbrev pub positional_of : List Given → Option Text
positional_of [] = None
positional_of (positional word ∷ _) = Some word
positional_of (_ ∷ rest) = positional_of rest
