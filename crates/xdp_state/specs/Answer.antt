-- What a command gets for an answer.
use Rattle.std.specs.Prelude.{ℕ, nat_eq, ◌&&◌, ◌==◌, ◌++◌, Bool, true, false, not, nat_le, List, [], ◌∷◌, length, position, slice_get, Option, Some, None, is_some, unwrap_or, if◌then◌else◌}
use Rattle.std.specs.Cmp.Lexicographic.{pointwise}
use Rattle.std.specs.List.{list_any}
use Rattle.std.specs.Option.{option_map}
use Rattle.chain_order.specs.Member.{has_number}
use Rattle.chain_order.specs.declared.member.Kind.{Kind}
use Rattle.chain_order.specs.declared.member.Kind.TheVariants as kind
use Rattle.chain_order.specs.declared.member.Member.{Member}
use Rattle.filter_rules.specs.Rule.{has_one_of}
use Rattle.filter_rules.specs.Rules.{has_row, has_rule}
use Rattle.filter_rules.specs.declared.rule.RuleKey.{RuleKey}
use Rattle.filter_rules.specs.declared.rule.RuleKind.{RuleKind}
use Rattle.filter_rules.specs.declared.rule.RuleKind.TheVariants.{Port, Ip4, Ip6, Ether}
use Rattle.object_load.specs.declared.program.Program.{Program}
use Rattle.xdp_state.specs.Book.{Book, has_own_flags}
use Rattle.xdp_state.specs.Dump.{dump_on}
use Rattle.xdp_state.specs.Interfaces.{is_declared, interface_named}
use Rattle.xdp_state.specs.Library.{number_of, filter_name, rank}
use Rattle.xdp_state.specs.Members.{Attached, chain_on, differs, filter_number, has_filter, has_filter_elsewhere, has_filter_somewhere, is_on, mode_on}
use Rattle.xdp_state.specs.declared.change.Change.{Change}
use Rattle.xdp_state.specs.declared.change.Change.TheVariants.{Attach, Detach, DetachAll, SetRule, ClearRule, DumpOn, DumpOff}
use Rattle.xdp_state.specs.declared.command.Command.{Command}
use Rattle.xdp_state.specs.declared.command.Command.TheVariants.{LoaderLoad, LoaderUnload, LoaderStatus, FilterLoad, FilterUnload, FilterRule, FilterStatus, DumpStart, DumpStop}
use Rattle.xdp_state.specs.declared.command.LoadWords.{LoadWords}
use Rattle.xdp_state.specs.declared.judgement.Judgement.{Judgement}
use Rattle.xdp_state.specs.declared.judgement.Judgement.TheVariants.{Accepted, Shown, Refused}
use Rattle.xdp_state.specs.declared.judgement.Reason.{Reason}
use Rattle.xdp_state.specs.declared.judgement.Reason.TheVariants.{NoInterface, BadObject, NoSuchProgram, ModeDiffers, ChainFull, NothingLoaded, NoSuchId, FilterThere, FilterNotThere, FeatureMissing, RulesFull, NoSuchRule, DumpThere, DumpNotThere}
use Rattle.xdp_state.specs.declared.library.Library.{Library}
use Rattle.xdp_state.specs.declared.library.Loaded.{Loaded}
use Rattle.xdp_state.specs.declared.library.Loaded.TheVariants as loaded
use Rattle.xdp_state.specs.declared.mode.Mode.{Mode}

-- a reason to refuse a command, and whether it holds
pub record Objection : Type 0 where
  pub holds : Bool
  pub reason : Reason

-- the first reason that holds; where none does, this
abbrev pub first_of : List Objection → Judgement → Judgement
first_of [] judgement = judgement
first_of (o ∷ os) judgement = if o.holds then Refused o.reason else first_of os judgement

-- what is answered for the interface of a name
abbrev pub at_interface : Library → List ℕ → (ℕ → Judgement) → Judgement
at_interface library name judged =
    first_of (record { holds = not (is_declared library.interfaces name); reason = NoInterface } ∷ [])
    (judged (interface_named library.interfaces name))

-- an interface has one mode, and ten members at most
abbrev pub attach_answer : Book → ℕ → Mode → Change → Judgement
attach_answer book interface mode change =
    first_of
    (record { holds = differs (mode_on book.members interface) mode; reason = ModeDiffers }
    ∷ record { holds = nat_le 10 (length (chain_on book.members interface)); reason = ChainFull } ∷ [])
    (Accepted change)

-- what a given word asks of a text; without a word any text will do
abbrev pub is_given : Option (List ℕ) → List ℕ → Bool
is_given None text = true
is_given (Some word) text = pointwise nat_eq text word

abbrev pub is_asked : LoadWords → Program → Bool
is_asked words program = is_given words.name program.name && is_given words.section program.section

abbrev pub load_change : Library → ℕ → LoadWords → ℕ → Program → Change
load_change library interface words place program =
    Attach interface (kind.Program (number_of library words.object place))
    (unwrap_or words.priority program.config.priority) (rank library program.name)
    (unwrap_or words.mask program.config.mask) words.mode

-- the program at a place of the object
abbrev pub program_answer : Library → Book → ℕ → LoadWords → ℕ → Option Program → Judgement
program_answer library book interface words place None = Refused NoSuchProgram
program_answer library book interface words place (Some program) =
    attach_answer book interface words.mode (load_change library interface words place program)

-- the first program that is asked for
abbrev pub object_answer : Library → Book → ℕ → LoadWords → Option Loaded → Judgement
object_answer library book interface words None = Refused NoSuchProgram
object_answer library book interface words (Some (loaded.Refused refusal)) = Refused (BadObject refusal)
object_answer library book interface words (Some (loaded.Programs programs)) =
    let place = unwrap_or (position (is_asked words) programs) (length programs) in
    program_answer library book interface words place (slice_get programs place)

abbrev pub loaded_at : Library → ℕ → Option Loaded
loaded_at library object = option_map (λ row. row.loaded) (slice_get library.objects object)

abbrev pub load_answer : Library → Book → LoadWords → Judgement
load_answer library book words =
    at_interface library words.interface
    (λ interface. object_answer library book interface words (loaded_at library words.object))

-- a member of the id, or all members
abbrev pub has_asked : List Member → Option ℕ → Bool
has_asked chain None = true
has_asked chain (Some id) = has_number chain id

abbrev pub off_change : ℕ → Option ℕ → Change
off_change interface None = DetachAll interface
off_change interface (Some id) = Detach interface id false

abbrev pub off_answer : Book → ℕ → Option ℕ → Judgement
off_answer book interface id =
    first_of
    (record { holds = length (chain_on book.members interface) == 0; reason = NothingLoaded }
    ∷ record { holds = not (has_asked (chain_on book.members interface) id); reason = NoSuchId } ∷ [])
    (Accepted (off_change interface id))

-- one interface, or all
abbrev pub status_answer : Library → Option (List ℕ) → Judgement
status_answer library None = Shown
status_answer library (Some name) = at_interface library name (λ interface. Shown)

-- A filter has priority 10 and goes on where its action is XDP_PASS (mask 4).
abbrev pub filter_answer : Library → Book → Kind → Mode → ℕ → Judgement
filter_answer library book filter mode interface =
    first_of (record { holds = has_filter (chain_on book.members interface); reason = FilterThere } ∷ [])
    (attach_answer book interface mode (Attach interface filter 10 (rank library filter_name) 4 mode))

-- the rules go with the last filter, unless they are kept
abbrev pub filter_off_answer : Book → Bool → ℕ → Judgement
filter_off_answer book keep interface =
    first_of (record { holds = not (has_filter (chain_on book.members interface)); reason = FilterNotThere } ∷ [])
    (Accepted (Detach interface (filter_number (chain_on book.members interface))
    (not keep && not (has_filter_elsewhere book.members interface))))

-- the features that a rule needs: a port's protocols (1 tcp, 2 udp), or what has its address (4 ipv4, 8 ipv6, 16 ethernet)
abbrev pub needed : RuleKind → ℕ → List ℕ
needed Port flags = (if has_one_of flags 5 then 1 ∷ [] else []) ++ (if has_one_of flags 10 then 2 ∷ [] else [])
needed Ip4 flags = 4 ∷ []
needed Ip6 flags = 8 ∷ []
needed Ether flags = 16 ∷ []

-- a feature that the rule needs is on in no filter
abbrev pub lacks_feature : List Attached → RuleKind → ℕ → Bool
lacks_feature members kind flags = list_any (λ feature. not (is_on members feature)) (needed kind flags)

abbrev pub set_answer : Book → RuleKey → ℕ → Judgement
set_answer book key flags =
    first_of
    (record { holds = not (has_filter_somewhere book.members); reason = FilterNotThere }
    ∷ record { holds = lacks_feature book.members key.kind flags; reason = FeatureMissing }
    ∷ record { holds = not (has_row book.rows key) && nat_le 4096 (length book.rows); reason = RulesFull } ∷ [])
    (Accepted (SetRule key flags))

abbrev pub clear_answer : Book → RuleKey → ℕ → Judgement
clear_answer book key flags =
    first_of
    (record { holds = not (has_filter_somewhere book.members); reason = FilterNotThere }
    ∷ record { holds = not (has_rule book.rows key flags); reason = NoSuchRule } ∷ [])
    (Accepted (ClearRule key flags))

-- an interface has one dump
abbrev pub dump_answer : Book → ℕ → ℕ → Judgement
dump_answer book setting interface =
    first_of (record { holds = is_some (dump_on book.dumps interface); reason = DumpThere } ∷ [])
    (Accepted (DumpOn interface setting))

abbrev pub dump_off_answer : Book → ℕ → Judgement
dump_off_answer book interface =
    first_of (record { holds = not (is_some (dump_on book.dumps interface)); reason = DumpNotThere } ∷ [])
    (Accepted (DumpOff interface))

abbrev pub answer : Library → Book → Command → Judgement
answer library book (LoaderLoad words) = load_answer library book words
answer library book (LoaderUnload name id) = at_interface library name (λ interface. off_answer book interface id)
answer library book (LoaderStatus name) = status_answer library name
answer library book (FilterLoad name mode policy features) =
    at_interface library name (filter_answer library book (kind.Filter policy features) mode)
answer library book (FilterUnload name keep) = at_interface library name (filter_off_answer book keep)
answer library book (FilterRule key flags remove) =
    if remove then clear_answer book key flags else set_answer book key flags
answer library book FilterStatus = Shown
answer library book (DumpStart name setting) = at_interface library name (dump_answer book setting)
answer library book (DumpStop name) = at_interface library name (dump_off_answer book)

-- a rule's flags are some flags of its kind
abbrev pub rule_fits : Command → Bool
rule_fits (FilterRule key flags remove) = has_own_flags key flags
rule_fits _ = true
