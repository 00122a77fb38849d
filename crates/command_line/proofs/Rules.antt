-- The built command and its rules.
use Rattle.std.proofs.Common.{◌≡◌, ◌||◌, ℕ, Bool, true, false, List, [], ◌∷◌, Option, Some, None, codes, refl, sym, subst, true≢false}
use Rattle.std.specs.Str.{bytes_eq}
use Rattle.std.proofs.lemmas.Slice.Eq.{bytes_eq-Decides}
use Rattle.clap.specs.Faults.{is_simple_and_free}
use Rattle.clap.specs.Simple.{App, Shape, built, is_simple, new_rule, new_shape}
use Rattle.clap.specs.Walk.{Rule, arg_by_id, arg_by_long}
use Rattle.clap.specs.declared.builder.action.ArgAction.TheVariants.{Set}
use Rattle.clap.specs.declared.builder.range.ValueRange.{ValueRange}
use Rattle.clap.specs.declared.builder.value_parser.ValueParser.TheVariants as parser
use Rattle.command_line.specs.Command.{command}
use Rattle.command_line.specs.Given.{Given, is_known, is_option, option, positional, refused}
use Rattle.command_line.specs.Words.{Text}

abbrev pub one_value : ValueRange
one_value = record { start_inclusive = 1; end_inclusive = 1 }

-- an argument that takes one value
abbrev pub single : Text → Option Text → Option ℕ → Rule
single id long index = record (new_rule id) {
  long = long;
  index = index;
  action = Some Set;
  range = Some one_value;
  parser = Some parser.String;
}

abbrev pub option_built : Text → Rule
option_built name = single name (Some name) None

abbrev pub script_built : Rule
script_built = single (codes "script") None (Some 1)

abbrev pub rules : List Rule
rules = option_built (codes "capture") ∷ option_built (codes "trace") ∷ option_built (codes "replay") ∷ script_built ∷ []

abbrev pub shape : Shape
shape = record (new_shape (codes "xdptool")) {
  rules = rules;
  no_binary_name = true;
  disable_help_flag = true;
  disable_help_subcommand = true;
  is_built = true;
}

abbrev pub command_built : App
command_built = record { top = shape; subs = [] }

pub built_is : built command ≡ command_built
unfolding command
built_is = refl

pub simple : is_simple command ≡ true
unfolding command
simple = refl

pub simple_and_free : is_simple_and_free command ≡ true
unfolding command
simple_and_free = refl

-- ---- names of options

name_among : (P : Text → Type 0) → P (codes "capture") → P (codes "trace") → P (codes "replay") → (name : Text) (a b d : Bool)
    → bytes_eq (codes "capture") name ≡ a → bytes_eq (codes "trace") name ≡ b → bytes_eq (codes "replay") name ≡ d
    → (a || (b || (d || false))) ≡ true → P name
name_among P c t r name true b d ea eb ed known = subst P ((bytes_eq-Decides (codes "capture") name).0 ea) c
name_among P c t r name false true d ea eb ed known = subst P ((bytes_eq-Decides (codes "trace") name).0 eb) t
name_among P c t r name false false true ea eb ed known = subst P ((bytes_eq-Decides (codes "replay") name).0 ed) r
name_among P c t r name false false false ea eb ed known = absurd (true≢false (sym known))

-- what holds of each option's name
pub each_option : (P : Text → Type 0) → P (codes "capture") → P (codes "trace") → P (codes "replay")
    → (name : Text) → is_option name ≡ true → P name
each_option P c t r name known = name_among P c t r name _ _ _ refl refl refl known

pub option_by_id : (name : Text) → is_option name ≡ true → arg_by_id rules name ≡ Some (option_built name)
option_by_id = each_option (λ name. arg_by_id rules name ≡ Some (option_built name)) refl refl refl

pub option_by_long : (name : Text) → is_option name ≡ true → arg_by_long rules name ≡ Some (option_built name)
option_by_long = each_option (λ name. arg_by_long rules name ≡ Some (option_built name)) refl refl refl

-- no option has the id of the word
pub option_apart : (name : Text) → is_option name ≡ true → bytes_eq name (codes "script") ≡ false
option_apart = each_option (λ name. bytes_eq name (codes "script") ≡ false) refl refl refl

pub script_apart : (name : Text) → is_option name ≡ true → bytes_eq (codes "script") name ≡ false
script_apart = each_option (λ name. bytes_eq (codes "script") name ≡ false) refl refl refl

none_named : (name : Text) (a b d : Bool)
    → bytes_eq (codes "capture") name ≡ a → bytes_eq (codes "trace") name ≡ b → bytes_eq (codes "replay") name ≡ d
    → (a || (b || (d || false))) ≡ false → arg_by_long rules name ≡ None
none_named name true b d ea eb ed unknown = absurd (true≢false unknown)
none_named name false true d ea eb ed unknown = absurd (true≢false unknown)
none_named name false false true ea eb ed unknown = absurd (true≢false unknown)
none_named name false false false ea eb ed unknown = rw (ea, eb, ed) refl

pub unknown_by_long : (name : Text) → is_option name ≡ false → arg_by_long rules name ≡ None
unknown_by_long name unknown = none_named name _ _ _ refl refl refl unknown

-- ---- the rule of what is given

abbrev pub id_of : Given → Text
id_of (option name value) = name
id_of (positional word) = codes "script"
id_of refused = []

abbrev pub text_of : Given → Text
text_of (option name value) = value
text_of (positional word) = word
text_of refused = []

abbrev pub long_in : Given → Option Text
long_in (option name value) = Some name
long_in _ = None

abbrev pub index_in : Given → Option ℕ
index_in (positional word) = Some 1
index_in _ = None

abbrev pub rule_for : Given → Rule
rule_for given = single (id_of given) (long_in given) (index_in given)

pub rule_by_id : (given : Given) → is_known given ≡ true → arg_by_id rules (id_of given) ≡ Some (rule_for given)
rule_by_id (option name value) known = option_by_id name known
rule_by_id (positional word) known = refl
rule_by_id refused known = absurd (true≢false (sym known))
