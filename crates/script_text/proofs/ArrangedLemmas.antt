-- The words behind a verb, one after the other.
use Rattle.std.proofs.Common.{◌≡◌, ℕ, true, false, List, [], ◌∷◌, Result, Ok, Err, refl, sym, ◌∙◌}
use Rattle.script_text.specs.Options.{Arranged, has_value, role_of, with_value, with_word, arranged_behind}
use Rattle.script_text.specs.Readings.{◌>>=◌}
use Rattle.script_text.specs.declared.options.Verb.{Verb}

bind_ok : (r : Result Arranged ℕ) → (r >>= Ok) ≡ r
bind_ok (Ok x) = refl
bind_ok (Err e) = refl

-- a word that has no value behind it
arranged-word : (verb : Verb) (so_far : Arranged) (word : List ℕ) (words : List (List ℕ)) → has_value (role_of verb word) ≡ false
    → arranged_behind verb so_far (word ∷ words) ≡ (with_word so_far (role_of verb word) word >>= (λ s. arranged_behind verb s words))
arranged-word verb so_far word [] none = sym (bind_ok (with_word so_far (role_of verb word) word))
arranged-word verb so_far word (next ∷ words) none = rw none refl

pub word-read : (verb : Verb) (so_far s : Arranged) (word : List ℕ) (words : List (List ℕ)) → has_value (role_of verb word) ≡ false
    → with_word so_far (role_of verb word) word ≡ Ok s → arranged_behind verb so_far (word ∷ words) ≡ arranged_behind verb s words
word-read verb so_far s word words none read = arranged-word verb so_far word words none ∙ rw read refl

pub word-bad : (verb : Verb) (so_far : Arranged) (rule : ℕ) (word : List ℕ) (words : List (List ℕ)) → has_value (role_of verb word) ≡ false
    → with_word so_far (role_of verb word) word ≡ Err rule → arranged_behind verb so_far (word ∷ words) ≡ Err rule
word-bad verb so_far rule word words none bad = arranged-word verb so_far word words none ∙ rw bad refl

-- an option and its value
pub value-read : (verb : Verb) (so_far s : Arranged) (word value : List ℕ) (words : List (List ℕ)) → has_value (role_of verb word) ≡ true
    → with_value so_far (role_of verb word) value ≡ Ok s → arranged_behind verb so_far (word ∷ value ∷ words) ≡ arranged_behind verb s words
value-read verb so_far s word value words has read = rw (has, read) refl

pub value-bad : (verb : Verb) (so_far : Arranged) (rule : ℕ) (word value : List ℕ) (words : List (List ℕ)) → has_value (role_of verb word) ≡ true
    → with_value so_far (role_of verb word) value ≡ Err rule → arranged_behind verb so_far (word ∷ value ∷ words) ≡ Err rule
value-bad verb so_far rule word value words has bad = rw (has, bad) refl

pub ruleset arranging = (word-read, word-bad, value-read, value-bad)
