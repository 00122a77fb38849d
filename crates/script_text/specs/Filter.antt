-- The lines of `xdp-filter`, by the words behind the first.
use Rattle.std.specs.Prelude.{ℕ, ◌+◌, ◌*◌, List, [], ◌∷◌, Option, Some, None, is_some, Result, Ok, Err, if◌then◌else◌}
use Rattle.std.specs.Option.{option_map, option_or}
use Rattle.filter_rules.specs.declared.policy.Policy.TheVariants.{Allow}
use Rattle.filter_rules.specs.declared.rule.RuleKey.{RuleKey}
use Rattle.filter_rules.specs.declared.rule.RuleKind.{RuleKind}
use Rattle.filter_rules.specs.declared.rule.RuleKind.TheVariants as kind
use Rattle.xdp_state.specs.declared.mode.Mode.TheVariants.{Native}
use Rattle.xdp_state.specs.declared.command.Command.{Command}
use Rattle.xdp_state.specs.declared.command.Command.TheVariants.{FilterLoad, FilterUnload, FilterRule, FilterStatus}
use Rattle.script_text.specs.Addresses.{ether_of, ip4_of, ip6_of}
use Rattle.script_text.specs.Names.{is_name}
use Rattle.script_text.specs.Numbers.{number_within}
use Rattle.script_text.specs.Options.{filter_verb_of, arranged}
use Rattle.script_text.specs.Readings.{◌>>=◌, both, found, keeps, or_else}
use Rattle.script_text.specs.declared.options.Given.{Given}
use Rattle.script_text.specs.declared.options.Verb.{Verb}
use Rattle.script_text.specs.declared.options.Verb.TheVariants as verb
use Rattle.script_text.specs.declared.word_lists.Directions.{Directions}
use Rattle.script_text.specs.declared.word_lists.Directions.TheVariants as direction
use Rattle.script_text.specs.declared.word_lists.Protocols.{Protocols}
use Rattle.script_text.specs.declared.word_lists.Protocols.TheVariants as protocol

-- mode native, policy allow and all features where no option says otherwise
unfoldable pub load_of : List ℕ → Given → Result Command ℕ
load_of name given =
    both (keeps 5 (is_name name)) (both (or_else given.mode Native) (both (or_else given.policy Allow) (or_else given.features 31)))
    >>= λ read. Ok (FilterLoad name read.1.0 read.1.1.0 read.1.1.1)

unfoldable pub unload_of : List ℕ → Given → Result Command ℕ
unload_of name given = keeps 5 (is_name name) >>= λ _. Ok (FilterUnload name given.keep)

-- source 1, target 2
abbrev pub direction_flags : Directions → ℕ
direction_flags direction.Source = 1
direction_flags direction.Target = 2
direction_flags direction.Both = 3

-- of a source TCP 1 and UDP 2
abbrev pub protocol_flags : Protocols → ℕ
protocol_flags protocol.Tcp = 1
protocol_flags protocol.Udp = 2
protocol_flags protocol.Both = 3

-- all pairs of a direction and a protocol: a target's flags are four times those of a source
abbrev pub port_flags : Directions → Protocols → ℕ
port_flags direction.Source protocols = protocol_flags protocols
port_flags direction.Target protocols = 4 * protocol_flags protocols
port_flags direction.Both protocols = protocol_flags protocols + 4 * protocol_flags protocols

abbrev pub rule_of : RuleKind → ℕ → ℕ → Given → Result Command ℕ
rule_of kind value flags given = Ok (FilterRule (record { kind = kind; value = value }) flags given.remove)

-- the target's port, of both protocols, where no option says otherwise
unfoldable pub port_of : List ℕ → Given → Result Command ℕ
port_of port given =
    both (found 4 (number_within 0 65535 port)) (both (or_else given.directions direction.Target) (or_else given.protocols protocol.Both))
    >>= λ read. rule_of kind.Port read.0 (port_flags read.1.0 read.1.1) given

-- the target's address where no option says otherwise
abbrev pub address_rule : Option RuleKey → Given → Result Command ℕ
address_rule key given =
    both (or_else given.directions direction.Target) (found 12 key) >>= λ read.
    rule_of read.1.kind read.1.value (direction_flags read.0) given

abbrev pub ether_key : List ℕ → Option RuleKey
ether_key word = option_map (λ address. record { kind = kind.Ether; value = address }) (ether_of word)

-- an IPv4 or an IPv6 address
abbrev pub ip_key : List ℕ → Option RuleKey
ip_key word =
    option_or (option_map (λ address. record { kind = kind.Ip4; value = address }) (ip4_of word))
    (option_map (λ address. record { kind = kind.Ip6; value = address }) (ip6_of word))

-- the command of a verb; all but `status` have one word of their own
abbrev pub command_of : Verb → Given → Option (List ℕ) → Result Command ℕ
command_of verb.FilterLoad given (Some name) = load_of name given
command_of verb.FilterUnload given (Some name) = unload_of name given
command_of verb.FilterPort given (Some port) = port_of port given
command_of verb.FilterIp given (Some address) = address_rule (ip_key address) given
command_of verb.FilterEther given (Some address) = address_rule (ether_key address) given
command_of verb.FilterStatus given None = Ok FilterStatus
command_of _ given _ = Err 3

unfoldable pub filter_line : List (List ℕ) → Result Command ℕ
filter_line [] = Err 3
filter_line (verb ∷ words) =
    found 2 (filter_verb_of verb) >>= λ verb. arranged verb words >>= λ words.
    if is_some words.plain.second then Err 3 else command_of verb words.given words.plain.first
