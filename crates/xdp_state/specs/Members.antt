-- The members that are attached, each to its interface.
use Rattle.std.specs.Prelude.{ℕ, ◌==◌, ◌&&◌, Bool, true, false, not, List, find, filter, map, slice_get, Option, Some, None}
use Rattle.std.specs.List.{list_any, range_with_len}
use Rattle.std.specs.Option.{option_map, option_map_or}
use Rattle.chain_order.specs.Chain.{chain_of}
use Rattle.chain_order.specs.declared.member.Kind.{Kind}
use Rattle.chain_order.specs.declared.member.Kind.TheVariants.{Program, Filter}
use Rattle.chain_order.specs.declared.member.Member.{Member}
use Rattle.filter_rules.specs.Rule.{has_one_of}
use Rattle.xdp_state.specs.declared.mode.Mode.{Mode}
use Rattle.xdp_state.specs.declared.mode.Mode.TheVariants.{Native, Skb}

pub record Attached : Type 0 where
  pub interface : ℕ
  pub mode : Mode
  pub member : Member

-- those of an interface, in order of attaching
abbrev pub members_of : List Attached → ℕ → List Attached
members_of members interface = filter (λ a. a.interface == interface) members

-- the chain of an interface: its members in the order in which they run
unfoldable pub chain_on : List Attached → ℕ → List Member
chain_on members interface = chain_of (map (λ a. a.member) (members_of members interface))

-- the mode of an interface: that of its first member
unfoldable pub mode_on : List Attached → ℕ → Option Mode
mode_on members interface = option_map (λ a. a.mode) (slice_get (members_of members interface) 0)

abbrev pub same_mode : Mode → Mode → Bool
same_mode Native Native = true
same_mode Skb Skb = true
same_mode _ _ = false

-- there is a mode, and it is another one
abbrev pub differs : Option Mode → Mode → Bool
differs None mode = false
differs (Some one) mode = not (same_mode one mode)

-- the members without those of an interface
abbrev pub members_off : List Attached → ℕ → List Attached
members_off members interface = filter (λ a. not (a.interface == interface)) members

-- the members without that of an interface and a number
abbrev pub members_without : List Attached → ℕ → ℕ → List Attached
members_without members interface number =
    filter (λ a. not ((a.interface == interface) && (a.member.number == number))) members

abbrev pub is_filter : Kind → Bool
is_filter (Program program) = false
is_filter (Filter policy features) = true

abbrev pub has_filter : List Member → Bool
has_filter chain = list_any (λ member. is_filter member.kind) chain

-- the number of the first filter, or 0 where there is none
abbrev pub filter_number : List Member → ℕ
filter_number chain = option_map_or (λ member. member.number) (find (λ member. is_filter member.kind) chain) 0

-- a filter with this feature
abbrev pub has_feature : ℕ → Kind → Bool
has_feature feature (Program program) = false
has_feature feature (Filter policy features) = has_one_of features feature

abbrev pub interfaces : List ℕ
interfaces = range_with_len 0 8

-- some interface has a filter, and one that isn't this one
abbrev pub has_filter_somewhere : List Attached → Bool
has_filter_somewhere members = list_any (λ interface. has_filter (chain_on members interface)) interfaces

abbrev pub has_filter_elsewhere : List Attached → ℕ → Bool
has_filter_elsewhere members but = list_any (λ interface. not (interface == but) && has_filter (chain_on members interface)) interfaces

-- the feature is on in some filter
abbrev pub is_on : List Attached → ℕ → Bool
is_on members feature =
    list_any (λ interface. list_any (λ member. has_feature feature member.kind) (chain_on members interface)) interfaces
