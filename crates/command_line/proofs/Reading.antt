-- What the parse of the command gives, by what the words give.
use Rattle.std.proofs.Common.{◌≡◌, ◌≢◌, ◌&&◌, ◌||◌, ℕ, Bool, cond, true, false, List, [], ◌∷◌, Option, Some, None, codes, fold, is_some, option_map, refl, sym, subst, ap, ◌∙◌, ⊎_elim, true≢false, String, unwrap_or}
use Rattle.std.specs.Prelude.{⊤}
use Rattle.std.proofs.lemmas.Bool.{and_parts}
use Rattle.std.proofs.lemmas.Str.{IsUtf8-string_bytes}
use Rattle.clap.specs.Faults.{built_fault, default_fault, defaults_fault, fault_of, given_default_fault, is_simple_and_free, level_fault, settle_fault, walk_fault}
use Rattle.clap.specs.Kinds.{HasKind, IsAmong, Kinds, or_else}
use Rattle.clap.specs.Matches.{found_of}
use Rattle.clap.specs.Simple.{App, HasMatchesOf, matches_of, names_of}
use Rattle.clap.specs.Values.{kind_of}
use Rattle.clap.specs.Walk.{Row, Rule, first_of, has_row, idle, nothing_held, rows_after, rows_of, settled, walk_from, walked, with_default}
use Rattle.clap.specs.declared.error.Error.{Error}
use Rattle.clap.specs.declared.error.kind.ErrorKind.{ErrorKind}
use Rattle.clap.specs.declared.error.kind.ErrorKind.TheVariants.{OutOfMemory}
use Rattle.clap.specs.declared.parser.matches.ArgMatches.{ArgMatches}
use Rattle.clap.proofs.FaultLemmas.{leaf_fault}
use Rattle.clap.proofs.WalkLemmas.{first_value-rows}
use Rattle.command_line.specs.Command.{command}
use Rattle.command_line.specs.Finding.{Finds}
use Rattle.command_line.specs.Given.{Given, are_taken, given_by}
use Rattle.command_line.specs.Words.{Text, texts_of}
use Rattle.command_line.proofs.Accepting.{accepted-taken}
use Rattle.command_line.proofs.Rows.{is_nil, rows_for}
use Rattle.command_line.proofs.Rules.{built_is, command_built, option_built, rules, shape, simple, simple_and_free, single}
use Rattle.command_line.proofs.Turns.{at, is_nil-or_else, or_else-nil, outcome}
use Rattle.command_line.proofs.Values.{option_value, positional_value}
use Rattle.command_line.proofs.Walking.{AreTexts, Stands, walk_reads}

pub are_texts : {A : Type 0} (words : List (String A)) → AreTexts (texts_of words)
are_texts [] = tt
are_texts (word ∷ words) = (IsUtf8-string_bytes word, are_texts words)

-- ---- no argument has a default

abbrev HasNone : Rule → Type 0
HasNone a = (rows : List Row) → (default_fault rows a ≡ []) × (with_default rows a ≡ rows)

abbrev AllHaveNone : List Rule → Type 0
AllHaveNone [] = ⊤
AllHaveNone (a ∷ rest) = HasNone a × AllHaveNone rest

defaults_none : (rest : List Rule) → AllHaveNone rest → (rows : List Row)
    → (defaults_fault rows rest ≡ []) × (fold with_default rows rest ≡ rows)
unfolding defaults_fault
defaults_none [] none rows = (refl, refl)
defaults_none (a ∷ rest) none rows =
    let here = none.0 rows in
    let behind = defaults_none rest none.1 (with_default rows a) in (
      ap (λ (first : Kinds). or_else first (defaults_fault (with_default rows a) rest)) here.0 ∙ behind.0,
      behind.1 ∙ here.1,
    )

either_way : {X : Type 0} (b : Bool) (x y : X) → cond (b || true) x y ≡ x
either_way true x y = refl
either_way false x y = refl

both_ways : {X : Type 0} (b : Bool) (x : X) → cond b x x ≡ x
both_ways true x = refl
both_ways false x = refl

single_none : (id : Text) (long : Option Text) (index : Option ℕ) → HasNone (single id long index)
single_none id long index rows = (
  either_way (has_row id rows) [] (given_default_fault (single id long index) []),
  both_ways (has_row id rows) rows,
)

option_none : (name : Text) → HasNone (option_built name)
option_none name = single_none name (Some name) None

rules_none : AllHaveNone rules
rules_none = (
  option_none (codes "capture"),
  (option_none (codes "trace"), (option_none (codes "replay"), (single_none (codes "script") None (Some 1), tt))),
)

-- ---- the walk from nothing

nothing_stands : Stands nothing_held true []
nothing_stands = record { skip = refl; fault = refl; settles = λ ok. refl; known = λ ok. refl }

words_read : (words : List Text) → AreTexts words
    → outcome (at nothing_held idle false false) words
    ≡ option_map rows_for (cond (are_taken (given_by words)) (Some (given_by words)) None)
words_read words utf8 =
    (walk_reads words utf8).0 nothing_held true [] false nothing_stands (λ ok. refl)
    ∙ ap (option_map rows_for) (accepted-taken (given_by words))

agree : (passes : Bool) (rows : List Row) (taken : Bool) (given : List Given)
    → cond passes (Some rows) None ≡ option_map rows_for (cond taken (Some given) None)
    → (passes ≡ taken) × (taken ≡ true → rows ≡ rows_for given)
agree true rows true given e = (refl, λ same. ap (λ (o : Option (List Row)). unwrap_or o rows) e)
agree true rows false given e = absurd (true≢false (ap (λ (o : Option (List Row)). is_some o) e))
agree false rows true given e = absurd (true≢false (sym (ap (λ (o : Option (List Row)). is_some o) e)))
agree false rows false given e = (refl, λ never. absurd (true≢false (sym never)))

-- the kinds of error, and the rows, at the end of the walk
abbrev walk_kinds : List Text → Kinds
walk_kinds words = walk_fault shape [] (walk_from nothing_held) words

abbrev end_kinds : List Text → Kinds
end_kinds words = settle_fault rules false (fold (walked rules []) (walk_from nothing_held) words).held

abbrev end_rows : List Text → List Row
end_rows words = (settled rules (fold (walked rules []) (walk_from nothing_held) words).held).rows

walk_agrees : (words : List Text) → AreTexts words
    → ((is_nil (walk_kinds words) && is_nil (end_kinds words)) ≡ are_taken (given_by words))
    × (are_taken (given_by words) ≡ true → end_rows words ≡ rows_for (given_by words))
unfolding outcome
walk_agrees words utf8 =
    agree (is_nil (walk_kinds words) && is_nil (end_kinds words)) (end_rows words) (are_taken (given_by words)) (given_by words)
    (words_read words utf8)

level_is : (words : List Text) → level_fault shape [] nothing_held words false [] ≡ or_else (walk_kinds words) (end_kinds words)
level_is words =
    ap (λ (defaults : Kinds). or_else (walk_kinds words) (or_else (end_kinds words) (or_else defaults [])))
    (defaults_none rules rules_none (end_rows words)).0
    ∙ ap (or_else (walk_kinds words)) (or_else-nil (end_kinds words))

fault_is : (words : List Text) → fault_of command words ≡ or_else (walk_kinds words) (end_kinds words)
unfolding command
fault_is words =
    ap (λ (app : App). built_fault app nothing_held words) built_is
    ∙ leaf_fault command_built nothing_held words refl ∙ level_is words

matches_are : (words : List Text) → matches_of command words ≡ end_rows words
unfolding command
matches_are words =
    ap (λ (app : App). rows_after app.top.rules (names_of app) words) built_is ∙ (defaults_none rules rules_none (end_rows words)).1

-- ---- what the parse gives

faults_agree : (words : List Text) → AreTexts words → is_nil (fault_of command words) ≡ are_taken (given_by words)
faults_agree words utf8 =
    ap (λ (kinds : Kinds). is_nil kinds) (fault_is words) ∙ is_nil-or_else (walk_kinds words) (end_kinds words)
    ∙ (walk_agrees words utf8).0

finds : (words : List Text) (m : ArgMatches) → AreTexts words → fault_of command words ≡ [] → HasMatchesOf command words m
    → Finds (given_by words) m
finds words m utf8 none matches =
    let taken : are_taken (given_by words) ≡ true = sym (faults_agree words utf8) ∙ ap (λ (kinds : Kinds). is_nil kinds) none in
    let known = (and_parts _ _ taken).0 in
    let rows : rows_of (found_of m) ≡ rows_for (given_by words) =
    (matches simple).0 ∙ matches_are words ∙ (walk_agrees words utf8).1 taken in
    record {
      taken = taken;
      script = first_value-rows (found_of m) (codes "script") ∙ ap (first_of (codes "script")) rows ∙ positional_value (given_by words) known;
      capture = first_value-rows (found_of m) (codes "capture") ∙ ap (first_of (codes "capture")) rows
          ∙ option_value (codes "capture") refl (given_by words) known;
      trace = first_value-rows (found_of m) (codes "trace") ∙ ap (first_of (codes "trace")) rows
          ∙ option_value (codes "trace") refl (given_by words) known;
      replay = first_value-rows (found_of m) (codes "replay") ∙ ap (first_of (codes "replay")) rows
          ∙ option_value (codes "replay") refl (given_by words) known;
    }

among_some : (k : ErrorKind) (kinds : Kinds) → IsAmong k kinds → is_nil kinds ≡ false
among_some k [] among = absurd among
among_some k (kind ∷ kinds) among = refl

refuses : (words : List Text) (e : Error) → AreTexts words → HasKind (fault_of command words) e → kind_of e ≢ OutOfMemory
    → are_taken (given_by words) ≡ false
refuses words e utf8 has other =
    sym (faults_agree words utf8) ∙ ⊎_elim (λ memory. absurd (other memory)) (λ among. among_some (kind_of e) (fault_of command words) among) has

-- for a command that `clap` sees so
pub found_by : {A : Type 0} (app : App) (words : List (String A)) (m : ArgMatches) → app ≡ command
    → (is_simple_and_free app ≡ true → fault_of app (texts_of words) ≡ []) → HasMatchesOf app (texts_of words) m
    → Finds (given_by (texts_of words)) m
found_by app words m is none matches =
    finds (texts_of words) m (are_texts words)
    (subst (λ (a : App). is_simple_and_free a ≡ true → fault_of a (texts_of words) ≡ []) is none simple_and_free)
    (subst (λ (a : App). HasMatchesOf a (texts_of words) m) is matches)

pub refused_by : {A : Type 0} (app : App) (words : List (String A)) (e : Error) → app ≡ command
    → (is_simple_and_free app ≡ true → HasKind (fault_of app (texts_of words)) e) → kind_of e ≢ OutOfMemory
    → are_taken (given_by (texts_of words)) ≡ false
refused_by app words e is has other =
    refuses (texts_of words) e (are_texts words)
    (subst (λ (a : App). is_simple_and_free a ≡ true → HasKind (fault_of a (texts_of words)) e) is has simple_and_free) other
