-- The words behind `xdp-loader VERB`, `xdp-filter VERB` and `xdpdump VERB`: the verb's options, and the words of its own.
use Rattle.std.specs.Prelude.{ℕ, ◌==◌, ◌||◌, Bool, true, false, List, [], ◌∷◌, codes, Option, Some, None, is_some, Result, Ok, Err, if◌then◌else◌}
use Rattle.std.specs.Option.{option_map}
use Rattle.std.specs.Str.{bytes_eq}
use Rattle.script_text.specs.Lists.{actions_of, directions_of, protocols_of, features_of, sides_of}
use Rattle.script_text.specs.Numbers.{number_within}
use Rattle.script_text.specs.Vocabulary.{mode_of, policy_of}
use Rattle.script_text.specs.Readings.{◌>>=◌, found}
use Rattle.script_text.specs.Words.{is_option}
use Rattle.script_text.specs.declared.options.Given.{Given}
use Rattle.script_text.specs.declared.options.Label.{Label}
use Rattle.script_text.specs.declared.options.Label.TheVariants as label
use Rattle.script_text.specs.declared.options.Role.{Role}
use Rattle.script_text.specs.declared.options.Role.TheVariants as role
use Rattle.script_text.specs.declared.options.Setting.{Setting}
use Rattle.script_text.specs.declared.options.Setting.TheVariants as setting
use Rattle.script_text.specs.declared.options.Switch.{Switch}
use Rattle.script_text.specs.declared.options.Switch.TheVariants as switch
use Rattle.script_text.specs.declared.options.Verb.{Verb}
use Rattle.script_text.specs.declared.options.Verb.TheVariants as verb

-- the second word of a line of `xdp-loader`, and of one of `xdp-filter`
abbrev pub loader_verb_of : List ℕ → Option Verb
loader_verb_of word =
    if bytes_eq word (codes "load") then Some verb.LoaderLoad
    else if bytes_eq word (codes "unload") then Some verb.LoaderUnload
    else if bytes_eq word (codes "status") then Some verb.LoaderStatus
    else None

abbrev pub filter_verb_of : List ℕ → Option Verb
filter_verb_of word =
    if bytes_eq word (codes "load") then Some verb.FilterLoad
    else if bytes_eq word (codes "unload") then Some verb.FilterUnload
    else if bytes_eq word (codes "port") then Some verb.FilterPort
    else if bytes_eq word (codes "ip") then Some verb.FilterIp
    else if bytes_eq word (codes "ether") then Some verb.FilterEther
    else if bytes_eq word (codes "status") then Some verb.FilterStatus
    else None

-- the second word of a line of `xdpdump`
abbrev pub dump_verb_of : List ℕ → Option Verb
dump_verb_of word =
    if bytes_eq word (codes "start") then Some verb.DumpStart
    else if bytes_eq word (codes "stop") then Some verb.DumpStop
    else None

-- the short or the long form of an option
abbrev pub is_either : List ℕ → List ℕ → List ℕ → Bool
is_either short long word = bytes_eq word short || bytes_eq word long

-- the options of each verb
abbrev pub program_option : List ℕ → Role
program_option word =
    if is_either (codes "-m") (codes "--mode") word then role.Setting setting.Mode
    else if is_either (codes "-n") (codes "--prog-name") word then role.Label label.Name
    else if is_either (codes "-s") (codes "--section") word then role.Label label.Section
    else if is_either (codes "-P") (codes "--prio") word then role.Setting setting.Priority
    else if is_either (codes "-A") (codes "--actions") word then role.Setting setting.Actions
    else role.Unknown

abbrev pub member_option : List ℕ → Role
member_option word =
    if is_either (codes "-i") (codes "--id") word then role.Setting setting.Id
    else if is_either (codes "-a") (codes "--all") word then role.Switch switch.All
    else role.Unknown

abbrev pub filter_option : List ℕ → Role
filter_option word =
    if is_either (codes "-m") (codes "--mode") word then role.Setting setting.Mode
    else if is_either (codes "-p") (codes "--policy") word then role.Setting setting.Policy
    else if is_either (codes "-f") (codes "--features") word then role.Setting setting.Features
    else role.Unknown

abbrev pub keep_option : List ℕ → Role
keep_option word =
    if is_either (codes "-k") (codes "--keep-maps") word then role.Switch switch.Keep else role.Unknown

abbrev pub address_option : List ℕ → Role
address_option word =
    if is_either (codes "-m") (codes "--mode") word then role.Setting setting.Directions
    else if is_either (codes "-r") (codes "--remove") word then role.Switch switch.Remove
    else role.Unknown

abbrev pub port_option : List ℕ → Role
port_option word =
    if is_either (codes "-p") (codes "--proto") word then role.Setting setting.Protocols else address_option word

abbrev pub dump_option : List ℕ → Role
dump_option word =
    if is_either (codes "-p") (codes "--program-names") word then role.Label label.Names
    else if bytes_eq word (codes "--rx-capture") then role.Setting setting.Sides
    else if is_either (codes "-s") (codes "--snapshot-length") word then role.Setting setting.Snap
    else role.Unknown

unfoldable pub option_of : Verb → List ℕ → Role
option_of verb.LoaderLoad word = program_option word
option_of verb.LoaderUnload word = member_option word
option_of verb.LoaderStatus word = role.Unknown
option_of verb.FilterLoad word = filter_option word
option_of verb.FilterUnload word = keep_option word
option_of verb.FilterPort word = port_option word
option_of verb.FilterIp word = address_option word
option_of verb.FilterEther word = address_option word
option_of verb.FilterStatus word = role.Unknown
option_of verb.DumpStart word = dump_option word
option_of verb.DumpStop word = role.Unknown

-- what a word is that is no option's value
unfoldable pub role_of : Verb → List ℕ → Role
role_of verb word = if is_option word then option_of verb word else role.Own

abbrev pub has_value : Role → Bool
has_value (role.Setting setting) = true
has_value (role.Label label) = true
has_value _ = false

-- nothing is given
abbrev pub none_given : Given
none_given = record {
  mode = None;
  policy = None;
  features = None;
  directions = None;
  protocols = None;
  priority = None;
  actions = None;
  id = None;
  sides = None;
  snap = None;
  keep = false;
  remove = false;
  all = false;
}

-- a number below 2^32
abbrev pub number_32 : List ℕ → Option ℕ
number_32 word = number_within 0 4294967295 word

-- a snapshot length, of which 0 is the greatest
abbrev pub snap_of : List ℕ → Option ℕ
snap_of word = option_map (λ snap. if snap == 0 then 262144 else snap) (number_within 0 262144 word)

-- What is given with one option more: its value, or the rule that the word breaks, 4 where it should be a number and 11 where it is none
-- of the option's choices. An option that stands twice breaks rule 3.
unfoldable pub given_value : Given → Setting → List ℕ → Result Given ℕ
given_value given setting.Mode value =
    if is_some given.mode then Err 3 else Ok (record given { mode = Some (found 11 (mode_of value)) })
given_value given setting.Policy value =
    if is_some given.policy then Err 3 else Ok (record given { policy = Some (found 11 (policy_of value)) })
given_value given setting.Features value =
    if is_some given.features then Err 3 else Ok (record given { features = Some (found 11 (features_of value)) })
given_value given setting.Directions value =
    if is_some given.directions then Err 3
    else Ok (record given { directions = Some (found 11 (directions_of value)) })
given_value given setting.Protocols value =
    if is_some given.protocols then Err 3
    else Ok (record given { protocols = Some (found 11 (protocols_of value)) })
given_value given setting.Priority value =
    if is_some given.priority then Err 3 else Ok (record given { priority = Some (found 4 (number_32 value)) })
given_value given setting.Actions value =
    if is_some given.actions then Err 3 else Ok (record given { actions = Some (found 11 (actions_of value)) })
given_value given setting.Id value =
    if is_some given.id then Err 3 else Ok (record given { id = Some (found 4 (number_32 value)) })
given_value given setting.Sides value =
    if is_some given.sides then Err 3 else Ok (record given { sides = Some (found 11 (sides_of value)) })
given_value given setting.Snap value =
    if is_some given.snap then Err 3 else Ok (record given { snap = Some (found 4 (snap_of value)) })

unfoldable pub given_switch : Given → Switch → Result Given ℕ
given_switch given switch.Keep = if given.keep then Err 3 else Ok (record given { keep = true })
given_switch given switch.Remove = if given.remove then Err 3 else Ok (record given { remove = true })
given_switch given switch.All = if given.all then Err 3 else Ok (record given { all = true })

-- words that are kept as they are: the verb's own in their order, and the names that options give
pub record PlainWords : Type 0 where
  pub first : Option (List ℕ)
  pub second : Option (List ℕ)
  pub name : Option (List ℕ)
  pub section : Option (List ℕ)
  pub names : Option (List ℕ)

abbrev pub no_plain : PlainWords
no_plain = record { first = None; second = None; name = None; section = None; names = None }

-- no verb has more than two words of its own
unfoldable pub with_own : PlainWords → List ℕ → Result PlainWords ℕ
with_own plain word =
    if is_some plain.second then Err 3
    else if is_some plain.first then Ok (record plain { second = Some word })
    else Ok (record plain { first = Some word })

unfoldable pub with_label : PlainWords → Label → List ℕ → Result PlainWords ℕ
with_label plain label.Name value = if is_some plain.name then Err 3 else Ok (record plain { name = Some value })
with_label plain label.Section value = if is_some plain.section then Err 3 else Ok (record plain { section = Some value })
with_label plain label.Names value = if is_some plain.names then Err 3 else Ok (record plain { names = Some value })

-- the words behind a verb: what the options give, and the words that are kept
pub record Arranged : Type 0 where
  pub given : Given
  pub plain : PlainWords

abbrev pub arrangement : Given → PlainWords → Arranged
arrangement given plain = record { given = given; plain = plain }

abbrev pub with_given : Arranged → Given → Result Arranged ℕ
with_given so_far given = Ok (arrangement given so_far.plain)

abbrev pub with_plain : Arranged → PlainWords → Result Arranged ℕ
with_plain so_far plain = Ok (arrangement so_far.given plain)

-- the words so far with a word that has no value behind it
abbrev pub with_word : Arranged → Role → List ℕ → Result Arranged ℕ
with_word so_far role.Own word = with_own so_far.plain word >>= with_plain so_far
with_word so_far (role.Switch switch) word = given_switch so_far.given switch >>= with_given so_far
with_word so_far _ word = Err 3

-- the words so far with an option and its value
abbrev pub with_value : Arranged → Role → List ℕ → Result Arranged ℕ
with_value so_far (role.Setting setting) value = given_value so_far.given setting value >>= with_given so_far
with_value so_far (role.Label label) value = with_label so_far.plain label value >>= with_plain so_far
with_value so_far _ value = Err 3

-- the words so far and those behind them, where an option's value is the next word
abbrev pub arranged_behind : Verb → Arranged → List (List ℕ) → Result Arranged ℕ
arranged_behind verb so_far [] = Ok so_far
arranged_behind verb so_far (word ∷ []) = with_word so_far (role_of verb word) word
arranged_behind verb so_far (word ∷ next ∷ words) =
    if has_value (role_of verb word)
    then with_value so_far (role_of verb word) next >>= (λ so_far. arranged_behind verb so_far words)
    else with_word so_far (role_of verb word) word >>= (λ so_far. arranged_behind verb so_far (next ∷ words))

-- the words behind a verb
unfoldable pub arranged : Verb → List (List ℕ) → Result Arranged ℕ
arranged verb words = arranged_behind verb (arrangement none_given no_plain) words
