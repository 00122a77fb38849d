-- One word's turn in the walk of `clap`, by what the word is.
use Rattle.std.proofs.Common.{◌≡◌, ◌&&◌, ◌||◌, ◌<◌, ℕ, Bool, cond, true, false, List, [], ◌∷◌, Option, Some, None, drop, length, get_or, fold, codes, refl, ap, ap₂, ◌∙◌, arith, IsUtf8, slice_get}
use Rattle.std.specs.Str.{bytes_eq, chars}
use Rattle.std.proofs.lemmas.Slice.Eq.{bytes_eq-Decides}
use Rattle.clap.specs.Faults.{bundle_fault, flags_fault, settle_fault, step_fault, turn_fault, use_fault, walk_fault, word_fault}
use Rattle.clap.specs.Kinds.{Kinds, or_else}
use Rattle.clap.specs.Lexer.{long_of, short_of}
use Rattle.clap.specs.Walk.{Held, Row, Step, Waiting, Walk, after_step, idle, is_pending, pushed, reacted, settled, subcommand_met, value, walked, word_met}
use Rattle.clap.specs.Walk.{option as waiting_for, positional as waiting_more}
use Rattle.clap.specs.declared.error.kind.ErrorKind.TheVariants.{UnknownArgument}
use Rattle.command_line.specs.Given.{is_option}
use Rattle.command_line.specs.Words.{Text}
use Rattle.command_line.proofs.Rows.{is_nil}
use Rattle.command_line.proofs.Rules.{option_built, option_by_id, option_by_long, rules, script_built, shape, unknown_by_long}
use Rattle.command_line.proofs.Seen.{behind, flag_char, hyphens}

-- between two words; `taken` says that the positional word was met
abbrev pub at : Held → Waiting → Bool → Bool → Walk
at h waiting taken trailing = record {
  held = h;
  waiting = waiting;
  position = cond taken 2 1;
  is_trailing = trailing;
  stopped = None;
}

abbrev pub holding : List Row → Option (Text × List Text) → Held
holding rows pending = record { rows = rows; pending = pending; skip = 0 }

-- whether the word passes
abbrev pub passes : Walk → Text → Bool
passes w word = is_nil (turn_fault shape [] w word)

-- the rows where all words pass
unfoldable pub outcome : Walk → List Text → Option (List Row)
outcome w words =
    cond (is_nil (walk_fault shape [] w words) && is_nil (settle_fault rules false (fold (walked rules []) w words).held))
    (Some (settled rules (fold (walked rules []) w words).held).rows) None

pub outcome_end : (w : Walk)
    → outcome w [] ≡ cond (is_nil (settle_fault rules false w.held)) (Some (settled rules w.held).rows) None
unfolding outcome walk_fault
outcome_end w = refl

first_fault : {X : Type 0} (first rest : Kinds) (end : Bool) (x : X)
    → cond (is_nil (or_else first rest) && end) (Some x) None ≡ cond (is_nil first) (cond (is_nil rest && end) (Some x) None) None
first_fault [] rest end x = refl
first_fault (k ∷ ks) rest end x = refl

pub outcome_next : (w : Walk) (word : Text) (words : List Text)
    → outcome w (word ∷ words) ≡ cond (passes w word) (outcome (walked rules [] w word) words) None
unfolding outcome walk_fault
outcome_next w word words =
    first_fault (turn_fault shape [] w word) (walk_fault shape [] (walked rules [] w word) words)
    (is_nil (settle_fault rules false (fold (walked rules []) (walked rules [] w word) words).held))
    (settled rules (fold (walked rules []) (walked rules [] w word) words).held).rows

-- a word that passes as `ok` says, and leads to w′
pub turned : (w w′ : Walk) (word : Text) (words : List Text) (ok : Bool) → passes w word ≡ ok → walked rules [] w word ≡ w′
    → outcome w (word ∷ words) ≡ cond ok (outcome w′ words) None
turned w w′ word words ok pass leads =
    outcome_next w word words ∙ ap₂ (λ (b : Bool) (v : Walk). cond b (outcome v words) None) pass leads

pub stopped_at : (w : Walk) (word : Text) (words : List Text) → passes w word ≡ false → outcome w (word ∷ words) ≡ None
stopped_at w word words pass = turned w _ word words false pass refl

-- ---- parts

no_subcommand : (waiting : Waiting) (word : Text) → subcommand_met [] waiting word ≡ None
no_subcommand idle word = refl
no_subcommand (waiting_for id) word = refl
no_subcommand waiting_more word = refl

pub is_nil-or_else : (a b : Kinds) → is_nil (or_else a b) ≡ (is_nil a && is_nil b)
is_nil-or_else [] b = refl
is_nil-or_else (k ∷ ks) b = refl

pub or_else-nil : (a : Kinds) → or_else a [] ≡ a
or_else-nil [] = refl
or_else-nil (k ∷ ks) = refl

-- ---- flags

flags_stray : (flags : Text) (skip c : ℕ) (h : Held) → skip ≡ 0 → 0 < length flags → slice_get (chars flags) 0 ≡ Some c
    → flags_fault rules false (length flags) flags skip h ≡ UnknownArgument ∷ []
unfolding flags_fault
flags_stray [] skip c h none long first = absurd (omega arith)
flags_stray (x ∷ xs) skip c h none long first = rw (none, first) refl

word_strays : (word : Text) (h : Held) → h.skip ≡ 0 → IsUtf8 word → get_or word 0 0 ≡ 45 → 1 < length word
    → bundle_fault rules false (drop 1 word) h ≡ UnknownArgument ∷ []
word_strays word h skip utf8 hyphen long =
    let found = flag_char word utf8 hyphen long in
    flags_stray (drop 1 word) h.skip found.0 (record h { skip = 0 }) skip (behind word long) found.1

-- ---- turns

module _ (h : Held) (waiting : Waiting) (taken : Bool) (word : Text) where
  pub separator_passes : bytes_eq word hyphens ≡ true → passes (at h waiting taken false) word ≡ true
  separator_passes is = rw (no_subcommand waiting word, is) refl

  pub separator_leads : bytes_eq word hyphens ≡ true → walked rules [] (at h waiting taken false) word ≡ at h waiting taken true
  unfolding walked
  separator_leads is = rw (no_subcommand waiting word, is) refl

  pub unknown_fails : (name : Text) (text : Option Text) → bytes_eq word hyphens ≡ false → long_of word ≡ Some (name, text)
      → is_option name ≡ false → passes (at h waiting taken false) word ≡ false
  unknown_fails name text other long unknown = rw (no_subcommand waiting word, other, long, unknown_by_long name unknown) refl

  pub name_passes : (name : Text) → bytes_eq word hyphens ≡ false → long_of word ≡ Some (name, None) → is_option name ≡ true
      → passes (at h waiting taken false) word ≡ is_nil (settle_fault rules false h)
  name_passes name other long known =
      rw (no_subcommand waiting word, other, long, option_by_long name known) (ap is_nil (or_else-nil (settle_fault rules false h)))

  pub name_leads : (name : Text) → bytes_eq word hyphens ≡ false → long_of word ≡ Some (name, None) → is_option name ≡ true
      → walked rules [] (at h waiting taken false) word
      ≡ at (record (settled rules h) { pending = Some (name, []) }) (waiting_for name) taken false
  unfolding walked
  name_leads name other long known = rw (no_subcommand waiting word, other, long, option_by_long name known) refl

  pub value_passes : (name text : Text) → bytes_eq word hyphens ≡ false → long_of word ≡ Some (name, Some text) → is_option name ≡ true
      → passes (at h waiting taken false) word
      ≡ (is_nil (settle_fault rules false h) && is_nil (use_fault false (option_built name) (text ∷ []) (settled rules h).rows))
  value_passes name text other long known =
      rw (no_subcommand waiting word, other, long, option_by_long name known) (ap is_nil (or_else-nil _)
      ∙ is_nil-or_else (settle_fault rules false h) (use_fault false (option_built name) (text ∷ []) (settled rules h).rows))

  pub value_leads : (name text : Text) → bytes_eq word hyphens ≡ false → long_of word ≡ Some (name, Some text) → is_option name ≡ true
      → walked rules [] (at h waiting taken false) word ≡ at (reacted rules (option_built name) (text ∷ []) h) idle taken false
  unfolding walked
  value_leads name text other long known = rw (no_subcommand waiting word, other, long, option_by_long name known) refl

  pub flag_fails : bytes_eq word hyphens ≡ false → long_of word ≡ None → short_of word ≡ Some (drop 1 word) → h.skip ≡ 0
      → IsUtf8 word → get_or word 0 0 ≡ 45 → 1 < length word → passes (at h waiting taken false) word ≡ false
  flag_fails other no_long short skip utf8 hyphen long =
      rw (no_subcommand waiting word, other, no_long, short, word_strays word h skip utf8 hyphen long) refl

-- ---- words that are no options

past_pending : {X : Type 0} (b : Bool) (x y : X) → cond (b && false) x y ≡ y
past_pending true x y = refl
past_pending false x y = refl

or-false : (b : Bool) → (b || false) ≡ b
or-false true = refl
or-false false = refl

bytes_same : (text : Text) → bytes_eq text text ≡ true
bytes_same text = (bytes_eq-Decides text text).1 refl

-- the word goes to the positional argument, if there is one left
pub record GoesOn (h : Held) (waiting : Waiting) (trailing : Bool) (word : Text) : Type 0 where
  pub fault : word_fault shape [] trailing waiting word h ≡ []
  pub met : (position : ℕ) → word_met rules [] trailing waiting position word h ≡ (h, value)

pub trailing_goes : (h : Held) (waiting : Waiting) (word : Text) → GoesOn h waiting true word
trailing_goes h waiting word = record { fault = refl; met = λ position. refl }

module _ (word : Text) (other : bytes_eq word hyphens ≡ false) (no_long : long_of word ≡ None) (no_short : short_of word ≡ None) where
  pub plain_goes : (h : Held) → GoesOn h idle false word
  plain_goes h = record {
    fault = rw (other, no_long, no_short) refl;
    met = λ position. rw (other, no_long, no_short) refl;
  }

  -- the word is the value of the option that waits
  pub awaited_passes : (rows : List Row) (name : Text) (taken : Bool)
      → passes (at (holding rows (Some (name, []))) (waiting_for name) taken false) word ≡ true
  awaited_passes rows name taken = rw (other, no_long, no_short) refl

  pub awaited_leads : (rows : List Row) (name : Text) (taken : Bool) → is_option name ≡ true
      → walked rules [] (at (holding rows (Some (name, []))) (waiting_for name) taken false) word
      ≡ at (holding rows (Some (name, word ∷ []))) idle taken false
  unfolding walked
  awaited_leads rows name taken known = rw (other, no_long, no_short, option_by_id name known, bytes_same name) refl

module _ (h : Held) (waiting : Waiting) (trailing : Bool) (word : Text) (goes : GoesOn h waiting trailing word) where
  pub positional_passes : passes (at h waiting false trailing) word ≡ is_nil (settle_fault rules false h)
  positional_passes =
      ap₂ (λ (fault : Kinds) (met : Held × Step). is_nil (or_else fault (step_fault shape 1 met.0 met.1))) goes.fault (goes.met 1)
      ∙ ap is_nil (past_pending (is_pending script_built h.pending) [] (settle_fault rules false h))

  pub positional_leads : walked rules [] (at h waiting false trailing) word
      ≡ at (pushed (codes "script") word (settled rules h)) idle true trailing
  unfolding walked
  positional_leads =
      ap (λ (met : Held × Step). after_step rules word (at h waiting false trailing) met.0 met.1) (goes.met 1)
      ∙ ap₂ (λ (held : Held) (more : Bool). at (pushed (codes "script") word held) idle true more)
      (past_pending (is_pending script_built h.pending) h (settled rules h)) (or-false trailing)

  pub second_fails : passes (at h waiting true trailing) word ≡ false
  second_fails =
      ap₂ (λ (fault : Kinds) (met : Held × Step). is_nil (or_else fault (step_fault shape 2 met.0 met.1))) goes.fault (goes.met 2)
