-- What is given, accepted from the first on.
use Rattle.std.proofs.Common.{◌≡◌, ◌&&◌, ◌||◌, ◌++◌, Bool, cond, true, false, not, List, [], ◌∷◌, Option, Some, None, refl, sym, ap, ap₂, ◌∙◌, append-nil, append_assoc, if◌then◌else◌}
use Rattle.std.specs.List.{list_all, list_any}
use Rattle.std.proofs.lemmas.List.Folds.{list_any-append}
use Rattle.command_line.specs.Given.{Given, are_single, are_taken, is_again, is_known, option, positional, refused}
use Rattle.command_line.specs.Words.{Text}

-- it was given before
abbrev pub stands_in : Given → List Given → Bool
stands_in given its = list_any (λ earlier. is_again earlier given) its

abbrev pub are_new : List Given → List Given → Bool
are_new its given = list_all (λ next. not (stands_in next its)) given

abbrev pub accepted : List Given → List Given → Option (List Given)
accepted its [] = Some its
accepted its (next ∷ rest) =
    if is_known next && not (stands_in next its) then accepted (its ++ next ∷ []) rest else None

regroup : {X : Type 0} (known again rest_known rest_new met rest_single : Bool) (x : X)
    → cond (known && not again) (cond (rest_known && ((rest_new && not met) && rest_single)) (Some x) None) None
    ≡ cond ((known && rest_known) && ((not again && rest_new) && (not met && rest_single))) (Some x) None
regroup false again rest_known rest_new met rest_single x = refl
regroup true true false rest_new met rest_single x = refl
regroup true true true rest_new met rest_single x = refl
regroup true false false rest_new met rest_single x = refl
regroup true false true false met rest_single x = refl
regroup true false true true met rest_single x = refl

swapped : (met one rest none : Bool)
    → (not (met || (one || false)) && (rest && not none)) ≡ ((not met && rest) && not (one || none))
swapped true one rest none = refl
swapped false true false none = refl
swapped false true true none = refl
swapped false false false none = refl
swapped false false true none = refl

-- new behind one more are those that were new, and aren't that one again
new_behind : (its : List Given) (next : Given) (rest : List Given)
    → are_new (its ++ next ∷ []) rest ≡ (are_new its rest && not (list_any (is_again next) rest))
new_behind its next [] = refl
new_behind its next (given ∷ rest) =
    ap₂ (λ a b. not a && b) (list_any-append (λ earlier. is_again earlier given) its (next ∷ [])) (new_behind its next rest)
    ∙ swapped (stands_in given its) (is_again next given) (are_new its rest) (list_any (is_again next) rest)

accepted_is : (its given : List Given)
    → accepted its given ≡ cond (list_all is_known given && (are_new its given && are_single given)) (Some (its ++ given)) None
accepted_is its [] = ap Some (sym (append-nil its))
accepted_is its (next ∷ rest) =
    ap (λ tail. cond (is_known next && not (stands_in next its)) tail None)
    (accepted_is (its ++ next ∷ []) rest
    ∙ ap₂ (λ (new : Bool) (all : List Given). cond (list_all is_known rest && (new && are_single rest)) (Some all) None)
    (new_behind its next rest) (append_assoc its (next ∷ []) rest))
    ∙ regroup (is_known next) (stands_in next its) (list_all is_known rest) (are_new its rest) (list_any (is_again next) rest)
    (are_single rest) (its ++ next ∷ rest)

all_new : (given : List Given) → are_new [] given ≡ true
all_new [] = refl
all_new (next ∷ rest) = all_new rest

pub accepted-taken : (given : List Given) → accepted [] given ≡ cond (are_taken given) (Some given) None
accepted-taken given =
    accepted_is [] given ∙ ap (λ new. cond (list_all is_known given && (new && are_single given)) (Some given) None) (all_new given)

-- ---- the positional word

abbrev pub is_positional : Given → Bool
is_positional (positional word) = true
is_positional _ = false

positional_again : (word : Text) (earlier : Given) → is_again earlier (positional word) ≡ is_positional earlier
positional_again word (option name value) = refl
positional_again word (positional first) = refl
positional_again word refused = refl

pub positional_stands : (word : Text) (its : List Given) → stands_in (positional word) its ≡ list_any is_positional its
positional_stands word [] = refl
positional_stands word (earlier ∷ its) = ap₂ (λ a b. a || b) (positional_again word earlier) (positional_stands word its)
