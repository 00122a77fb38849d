-- The walk of `clap` over words, and what the words give.
use Rattle.std.proofs.Common.{◌≡◌, ◌&&◌, ◌||◌, ◌++◌, Bool, cond, true, false, not, List, [], ◌∷◌, map, Option, Some, None, codes, option_map, refl, sym, ap, ◌∙◌, true≢false, IsUtf8}
use Rattle.std.specs.Prelude.{⊤}
use Rattle.std.specs.List.{list_all, list_any}
use Rattle.std.specs.Option.{option_map_or}
use Rattle.std.proofs.lemmas.Bool.{and_from, and_parts}
use Rattle.std.proofs.lemmas.List.{map-append}
use Rattle.std.proofs.lemmas.List.Folds.{list_any-append}
use Rattle.clap.specs.Faults.{settle_fault, use_fault}
use Rattle.clap.specs.Walk.{Held, Row, Rule, Waiting, has_row, idle, pushed, reacted, settled, used, used_by_id}
use Rattle.clap.specs.Walk.{option as waiting_for}
use Rattle.command_line.specs.Given.{Given, given_at, given_behind, is_known, is_option, option, positional, refused, value_at}
use Rattle.command_line.specs.Words.{Text, Word, separator, named, flag, plain, word_of}
use Rattle.command_line.proofs.Accepting.{accepted, is_positional, positional_stands, stands_in}
use Rattle.command_line.proofs.Rows.{first_use, has_row_is, is_nil, row_for, rows_for, use_passes}
use Rattle.command_line.proofs.Rules.{id_of, index_in, long_in, option_built, rule_by_id, rule_for, rules, text_of}
use Rattle.command_line.proofs.Seen.{IsSeen, seen}
use Rattle.command_line.proofs.Turns.{GoesOn, at, awaited_leads, awaited_passes, flag_fails, holding, name_leads, name_passes, outcome, outcome_end, passes, plain_goes, positional_leads, positional_passes, second_fails, separator_leads, separator_passes, stopped_at, trailing_goes, turned, unknown_fails, value_leads, value_passes}

-- what is wanted where `ok` says whether what was given so far is accepted
abbrev pub wanted : Bool → List Given → List Given → Option (List Row)
wanted ok its rest = cond ok (option_map rows_for (accepted its rest)) None

-- `h` holds what was given, or something that isn't accepted
pub record Stands (h : Held) (ok : Bool) (its : List Given) : Type 0 where
  pub skip : h.skip ≡ 0
  pub fault : is_nil (settle_fault rules false h) ≡ ok
  pub settles : ok ≡ true → settled rules h ≡ holding (rows_for its) None
  pub known : ok ≡ true → list_all is_known its ≡ true

-- `taken` says whether a positional word is among what was given
abbrev pub IsMarked : Bool → Bool → List Given → Type 0
IsMarked ok taken its = ok ≡ true → taken ≡ list_any is_positional its

known_more : (its : List Given) (next : Given) → list_all is_known its ≡ true → is_known next ≡ true
    → list_all is_known (its ++ next ∷ []) ≡ true
known_more [] next known one = and_from _ _ one refl
known_more (given ∷ its) next known one =
    let parts = and_parts _ _ known in
    and_from _ _ parts.0 (known_more its next parts.1 one)

rows_more : (its : List Given) (next : Given) → rows_for (its ++ next ∷ []) ≡ rows_for its ++ row_for next ∷ []
rows_more its next = map-append row_for its (next ∷ [])

is_new : (again : Bool) → not again ≡ true → again ≡ false
is_new true e = absurd (true≢false (sym e))
is_new false e = refl

rows_used : (its : List Given) (next : Given) → list_all is_known its ≡ true → is_known next ≡ true → stands_in next its ≡ false
    → used (rule_for next) (text_of next ∷ []) (rows_for its) ≡ rows_for (its ++ next ∷ [])
rows_used its next known one new =
    first_use (id_of next) (long_in next) (index_in next) (text_of next) (rows_for its) (has_row_is next its one known ∙ new)
    ∙ sym (rows_more its next)

-- one more thing is given, and its value waits to be used
pub pending_stands : (its : List Given) (next : Given) → list_all is_known its ≡ true → is_known next ≡ true
    → Stands (holding (rows_for its) (Some (id_of next, text_of next ∷ []))) (not (stands_in next its)) (its ++ next ∷ [])
pending_stands its next known one = record {
  skip = refl;
  fault = ap (λ (found : Option Rule). is_nil (option_map_or (λ (a : Rule). use_fault false a (text_of next ∷ []) (rows_for its)) found []))
      (rule_by_id next one)
      ∙ use_passes (id_of next) (long_in next) (index_in next) (text_of next) (rows_for its) ∙ ap not (has_row_is next its one known);
  settles = λ new. ap (λ (found : Option Rule). holding (used_by_id found (text_of next ∷ []) (rows_for its)) None) (rule_by_id next one)
      ∙ ap (λ (rows : List Row). holding rows None) (rows_used its next known one (is_new _ new));
  known = λ new. known_more its next known one;
}

-- the same, where the value was used at once
pub used_stands : (h : Held) (its : List Given) (name text : Text) → Stands h true its → is_option name ≡ true
    → stands_in (option name text) its ≡ false
    → Stands (reacted rules (option_built name) (text ∷ []) h) true (its ++ option name text ∷ [])
used_stands h its name text stands one new =
    let now = ap (λ (held : Held). used (option_built name) (text ∷ []) held.rows) (stands.settles refl)
    ∙ rows_used its (option name text) (stands.known refl) one new in
    record {
      skip = stands.skip;
      fault = refl;
      settles = λ ok i. record { rows = now i; pending = None; skip = stands.skip i };
      known = λ ok. known_more its (option name text) (stands.known refl) one;
    }

-- ---- the mark of the positional word

unmarked : (its : List Given) (name text : Text) → list_any is_positional (its ++ option name text ∷ []) ≡ list_any is_positional its
unmarked its name text = list_any-append is_positional its (option name text ∷ []) ∙ plain_or (list_any is_positional its)
  where
    plain_or : (b : Bool) → (b || (false || false)) ≡ b
    plain_or true = refl
    plain_or false = refl

marked : (its : List Given) (word : Text) → list_any is_positional (its ++ positional word ∷ []) ≡ true
marked its word = list_any-append is_positional its (positional word ∷ []) ∙ full_or (list_any is_positional its)
  where
    full_or : (b : Bool) → (b || (true || false)) ≡ true
    full_or true = refl
    full_or false = refl

-- ---- what is accepted of the next thing

accepts_next : (its : List Given) (next : Given) (rest : List Given) → is_known next ≡ true
    → wanted true its (next ∷ rest) ≡ wanted (not (stands_in next its)) (its ++ next ∷ []) rest
accepts_next its next rest one = go (is_known next) (stands_in next its) one
  where
    go : (known again : Bool) → known ≡ true
        → option_map rows_for (cond (known && not again) (accepted (its ++ next ∷ []) rest) None)
        ≡ cond (not again) (option_map rows_for (accepted (its ++ next ∷ []) rest)) None
    go true true e = refl
    go true false e = refl
    go false again e = absurd (true≢false (sym e))

refuses_unknown : (ok : Bool) (its : List Given) (next : Given) (rest : List Given) → is_known next ≡ false → wanted ok its (next ∷ rest) ≡ None
refuses_unknown false its next rest none = refl
refuses_unknown true its next rest none =
    ap (λ known. option_map rows_for (cond (known && not (stands_in next its)) (accepted (its ++ next ∷ []) rest) None)) none

-- a name that is no option's gives nothing that is accepted
unknown_waits : (ok : Bool) (its : List Given) (name : Text) (words : List Text) → is_option name ≡ false
    → wanted ok its (given_behind words (Some name)) ≡ None
unfolding given_behind
unknown_waits ok its name [] none = refuses_unknown ok its refused [] refl
unknown_waits ok its name (word ∷ words) none = go (word_of word)
  where
    go : (kind : Word) → wanted ok its (value_at kind name word (given_behind words)) ≡ None
    go separator = refuses_unknown ok its refused [] refl
    go (named other text) = refuses_unknown ok its refused [] refl
    go flag = refuses_unknown ok its refused [] refl
    go plain = refuses_unknown ok its (option name word) (given_behind words None) none

-- ---- the end

pub at_end : (h : Held) (ok : Bool) (its : List Given) (waiting : Waiting) (taken trailing : Bool) → Stands h ok its
    → outcome (at h waiting taken trailing) [] ≡ wanted ok its []
at_end h ok its waiting taken trailing stands =
    outcome_end (at h waiting taken trailing)
    ∙ ap (λ b. cond b (Some (settled rules h).rows) None) stands.fault ∙ go ok stands.settles
  where
    go : (b : Bool) → (b ≡ true → settled rules h ≡ holding (rows_for its) None)
        → cond b (Some (settled rules h).rows) None ≡ wanted b its []
    go true settles = ap (λ (held : Held). Some held.rows) (settles refl)
    go false settles = refl

-- ---- the positional word

abbrev pub Reads : Held → Waiting → Bool → Bool → Bool → List Given → List Text → List Given → Type 0
Reads h waiting taken trailing ok its words given = outcome (at h waiting taken trailing) words ≡ wanted ok its given

-- what is read behind a positional word
abbrev pub Behind : Bool → List Text → List Given → Type 0
Behind trailing words given = (h : Held) (ok : Bool) (its : List Given) (taken : Bool) → Stands h ok its → IsMarked ok taken its
    → Reads h idle taken trailing ok its words given

positional_reads : (h : Held) (waiting : Waiting) (ok taken trailing : Bool) (its : List Given) (word : Text) (words : List Text) (given : List Given)
    → GoesOn h waiting trailing word → Stands h ok its → IsMarked ok taken its → Behind trailing words given
    → Reads h waiting taken trailing ok its (word ∷ words) (positional word ∷ given)
positional_reads h waiting false false trailing its word words given goes stands mark rest =
    stopped_at _ word words (positional_passes h waiting trailing word goes ∙ stands.fault)
positional_reads h waiting true false trailing its word words given goes stands mark rest =
    turned _ _ word words true (positional_passes h waiting trailing word goes ∙ stands.fault)
    (positional_leads h waiting trailing word goes
    ∙ ap (λ (held : Held). at (pushed (codes "script") word held) idle true trailing) (stands.settles refl))
    ∙ rest _ _ (its ++ positional word ∷ []) true (pending_stands its (positional word) (stands.known refl) refl)
    (λ new. sym (marked its word))
    ∙ sym (accepts_next its (positional word) given refl)
positional_reads h waiting ok true trailing its word words given goes stands mark rest =
    stopped_at _ word words (second_fails h waiting trailing word goes) ∙ sym (refused_again ok mark)
  where
    refused_again : (b : Bool) → IsMarked b true its → wanted b its (positional word ∷ given) ≡ None
    refused_again false is = refl
    refused_again true is =
        accepts_next its (positional word) given refl
        ∙ ap (λ again. wanted (not again) (its ++ positional word ∷ []) given) (positional_stands word its ∙ sym (is refl))

-- behind `--`
pub trailing_reads : (words : List Text) (h : Held) (waiting : Waiting) (ok : Bool) (its : List Given) (taken : Bool) → Stands h ok its
    → IsMarked ok taken its → Reads h waiting taken true ok its words (map positional words)
trailing_reads [] h waiting ok its taken stands mark = at_end h ok its waiting taken true stands
trailing_reads (word ∷ words) h waiting ok its taken stands mark =
    positional_reads h waiting ok taken true its word words (map positional words) (trailing_goes h waiting word) stands mark
    (λ h′ ok′ its′ taken′. trailing_reads words h′ idle ok′ its′ taken′)

-- ---- options

-- what is read behind a name that waits for its value
abbrev pub BehindName : List Text → Type 0
BehindName words = (its : List Given) (name : Text) (taken : Bool) → list_all is_known its ≡ true → is_option name ≡ true
    → taken ≡ list_any is_positional its
    → outcome (at (holding (rows_for its) (Some (name, []))) (waiting_for name) taken false) words
    ≡ wanted true its (given_behind words (Some name))

module _ (h : Held) (ok : Bool) (its : List Given) (taken : Bool) (word : Text) (words : List Text)
    (stands : Stands h ok its) (mark : IsMarked ok taken its) (behind : Behind false words (given_behind words None)) (behind_name : BehindName words) where
  abbrev after_value : Text → Text → Option (List Row)
  after_value name text = outcome (at (reacted rules (option_built name) (text ∷ []) h) idle taken false) words

  value_reads : (name text : Text) (known : Bool) → is_option name ≡ known → IsSeen word (named name (Some text))
      → Reads h idle taken false ok its (word ∷ words) (option name text ∷ given_behind words None)
  value_reads name text false none see =
      stopped_at _ word words (unknown_fails h idle taken word name (Some text) see.0 see.1 none)
      ∙ sym (refuses_unknown ok its (option name text) (given_behind words None) none)
  value_reads name text true one see =
      turned _ _ word words _ (value_passes h idle taken word name text see.0 see.1 one) (value_leads h idle taken word name text see.0 see.1 one)
      ∙ ap (λ b. cond (b && is_nil (use_fault false (option_built name) (text ∷ []) (settled rules h).rows)) (after_value name text) None) stands.fault
      ∙ go ok stands mark
    where
      new_reads : (again : Bool) → stands_in (option name text) its ≡ again → Stands h true its → IsMarked true taken its
          → cond (not again) (after_value name text) None ≡ wanted (not again) (its ++ option name text ∷ []) (given_behind words None)
      new_reads true is is_so is_marked = refl
      new_reads false is is_so is_marked =
          behind (reacted rules (option_built name) (text ∷ []) h) true (its ++ option name text ∷ []) taken (used_stands h its name text is_so one is)
          (λ ok. is_marked refl ∙ sym (unmarked its name text))

      go : (b : Bool) → Stands h b its → IsMarked b taken its
          → cond (b && is_nil (use_fault false (option_built name) (text ∷ []) (settled rules h).rows)) (after_value name text) None
          ≡ wanted b its (option name text ∷ given_behind words None)
      go false is_so is_marked = refl
      go true is_so is_marked =
          ap (λ b. cond b (after_value name text) None)
          (use_passes name (Some name) None text (settled rules h).rows
          ∙ ap (λ (held : Held). not (has_row name held.rows)) (is_so.settles refl)
          ∙ ap not (has_row_is (option name text) its one (is_so.known refl)))
          ∙ new_reads (stands_in (option name text) its) refl is_so is_marked
          ∙ sym (accepts_next its (option name text) (given_behind words None) one)

  name_reads : (name : Text) (known : Bool) → is_option name ≡ known → IsSeen word (named name None)
      → Reads h idle taken false ok its (word ∷ words) (given_behind words (Some name))
  name_reads name false none see =
      stopped_at _ word words (unknown_fails h idle taken word name None see.0 see.1 none) ∙ sym (unknown_waits ok its name words none)
  name_reads name true one see =
      turned _ _ word words ok (name_passes h idle taken word name see.0 see.1 one ∙ stands.fault)
      (name_leads h idle taken word name see.0 see.1 one)
      ∙ go ok stands mark
    where
      go : (b : Bool) → Stands h b its → IsMarked b taken its
          → cond b (outcome (at (record (settled rules h) { pending = Some (name, []) }) (waiting_for name) taken false) words) None
          ≡ wanted b its (given_behind words (Some name))
      go false is_so is_marked = refl
      go true is_so is_marked =
          ap (λ (held : Held). outcome (at (record held { pending = Some (name, []) }) (waiting_for name) taken false) words) (is_so.settles refl)
          ∙ behind_name its name taken (is_so.known refl) one (is_marked refl)

  -- a word where no name waits for its value
  word_reads : (kind : Word) → IsSeen word kind → IsUtf8 word
      → Reads h idle taken false ok its (word ∷ words) (given_at kind word words (given_behind words))
  word_reads separator see utf8 =
      turned _ _ word words true (separator_passes h idle taken word see) (separator_leads h idle taken word see)
      ∙ trailing_reads words h idle ok its taken stands mark
  word_reads (named name (Some text)) see utf8 = value_reads name text (is_option name) refl see
  word_reads (named name None) see utf8 = name_reads name (is_option name) refl see
  word_reads flag see utf8 =
      stopped_at _ word words (flag_fails h idle taken word see.0 see.1 see.2 stands.skip utf8 see.3 see.4)
      ∙ sym (refuses_unknown ok its refused [] refl)
  word_reads plain see utf8 =
      positional_reads h idle ok taken false its word words (given_behind words None) (plain_goes word see.0 see.1 see.2 h) stands mark behind

-- ---- a name that waits

waiting_stands : (its : List Given) (name : Text) → is_option name ≡ true
    → Stands (holding (rows_for its) (Some (name, []))) false its
waiting_stands its name one = record {
  skip = refl;
  fault = ap (λ (found : Option Rule). is_nil (option_map_or (λ (a : Rule). use_fault false a [] (rows_for its)) found [])) (rule_by_id (option name []) one);
  settles = λ never. absurd (true≢false (sym never));
  known = λ never. absurd (true≢false (sym never));
}

module _ (its : List Given) (name : Text) (taken : Bool) (word : Text) (words : List Text) (known : list_all is_known its ≡ true)
    (one : is_option name ≡ true) (mark : taken ≡ list_any is_positional its) (behind : Behind false words (given_behind words None)) where
  abbrev awaiting : Held
  awaiting = holding (rows_for its) (Some (name, []))

  bad : Stands awaiting false its
  bad = waiting_stands its name one

  other_fails : (other : Text) (text : Option Text) (is : Bool) → is_option other ≡ is → IsSeen word (named other text)
      → passes (at awaiting (waiting_for name) taken false) word ≡ false
  other_fails other text false none see = unknown_fails awaiting (waiting_for name) taken word other text see.0 see.1 none
  other_fails other None true is see = name_passes awaiting (waiting_for name) taken word other see.0 see.1 is ∙ bad.fault
  other_fails other (Some text) true is see =
      value_passes awaiting (waiting_for name) taken word other text see.0 see.1 is
      ∙ ap (λ b. b && is_nil (use_fault false (option_built other) (text ∷ []) (settled rules awaiting).rows)) bad.fault

  no_value : wanted true its (refused ∷ []) ≡ None
  no_value = refuses_unknown true its refused [] refl

  -- a word where a name waits for its value
  awaited_reads : (kind : Word) → IsSeen word kind → IsUtf8 word
      → outcome (at awaiting (waiting_for name) taken false) (word ∷ words) ≡ wanted true its (value_at kind name word (given_behind words))
  awaited_reads separator see utf8 =
      turned _ _ word words true (separator_passes awaiting (waiting_for name) taken word see)
      (separator_leads awaiting (waiting_for name) taken word see)
      ∙ trailing_reads words awaiting (waiting_for name) false its taken bad (λ never. absurd (true≢false (sym never)))
      ∙ sym no_value
  awaited_reads (named other text) see utf8 =
      stopped_at _ word words (other_fails other text (is_option other) refl see) ∙ sym no_value
  awaited_reads flag see utf8 =
      stopped_at _ word words (flag_fails awaiting (waiting_for name) taken word see.0 see.1 see.2 refl utf8 see.3 see.4) ∙ sym no_value
  awaited_reads plain see utf8 =
      turned _ _ word words true (awaited_passes word see.0 see.1 see.2 (rows_for its) name taken)
      (awaited_leads word see.0 see.1 see.2 (rows_for its) name taken one)
      ∙ behind _ _ (its ++ option name word ∷ []) taken (pending_stands its (option name word) known one)
      (λ new. mark ∙ sym (unmarked its name word))
      ∙ sym (accepts_next its (option name word) (given_behind words None) one)

-- ---- all words

abbrev pub AreTexts : List Text → Type 0
AreTexts [] = ⊤
AreTexts (word ∷ words) = IsUtf8 word × AreTexts words

pub walk_reads : (words : List Text) → AreTexts words → Behind false words (given_behind words None) × BehindName words
unfolding given_behind
walk_reads [] utf8 = (
  λ h ok its taken stands mark. at_end h ok its idle taken false stands,
  λ its name taken known one mark.
      at_end (holding (rows_for its) (Some (name, []))) false its (waiting_for name) taken false (waiting_stands its name one)
      ∙ sym (refuses_unknown true its refused [] refl),
)
walk_reads (word ∷ words) utf8 =
    let rest = walk_reads words utf8.1 in (
      λ h ok its taken stands mark. word_reads h ok its taken word words stands mark rest.0 rest.1 (word_of word) (seen word) utf8.0,
      λ its name taken known one mark. awaited_reads its name taken word words known one mark rest.0 (word_of word) (seen word) utf8.0,
    )
