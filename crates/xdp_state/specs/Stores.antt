-- The maps that a processor keeps of its own for the members of its interface.
use Rattle.std.specs.Prelude.{◌≡◌, ℕ, nat_eq, ◌==◌, ◌&&◌, Bool, true, false, List, [], ◌∷◌, ◌++◌, find, filter, length, map, filter_map, Option, Some, None, if◌then◌else◌}
use Rattle.std.specs.Cmp.Lexicographic.{pointwise}
use Rattle.std.specs.List.{list_any, list_all}
use Rattle.std.specs.Option.{option_map_or}
use Rattle.chain_order.specs.declared.member.Kind.{Kind}
use Rattle.chain_order.specs.declared.member.Kind.TheVariants as kind
use Rattle.chain_order.specs.declared.member.Member.{Member}
use Rattle.map_store.specs.Initial.{first_map}
use Rattle.map_store.specs.Slots.{Map}
use Rattle.map_store.specs.declared.spec.MapKind.{MapKind}
use Rattle.map_store.specs.declared.spec.MapKind.TheVariants.{Hash, Array, PercpuHash, PercpuArray}
use Rattle.map_store.specs.declared.spec.MapSpec.{MapSpec}
use Rattle.object_load.specs.declared.program.Program.{Program}
use Rattle.run_config.specs.Maps.{specs_of}
use Rattle.xdp_state.specs.Library.{program_at}
use Rattle.xdp_state.specs.declared.library.Library.{Library}

-- the maps of the member of a number, and what they were made of
pub record MemberMaps : Type 0 where
  pub number : ℕ
  pub specs : List MapSpec
  pub maps : List Map

-- the kernel's number of a kind (`enum bpf_map_type`)
abbrev pub kind_number : MapKind → ℕ
kind_number Hash = 1
kind_number Array = 2
kind_number PercpuHash = 5
kind_number PercpuArray = 6

abbrev pub same_spec : MapSpec → MapSpec → Bool
same_spec one other =
    (kind_number one.kind == kind_number other.kind) && (one.key_size == other.key_size) && (one.value_size == other.value_size)
    && (one.max_entries == other.max_entries) && pointwise nat_eq one.initial other.initial

abbrev pub same_specs : List MapSpec → List MapSpec → Bool
same_specs specs others = pointwise same_spec specs others

-- the program that a member is, where the library has it
abbrev pub program_as : Library → Kind → Option Program
program_as library (kind.Program number) = program_at library number
program_as library (kind.Filter policy features) = None

abbrev pub program_of : Library → Member → Option Program
program_of library member = program_as library member.kind

-- maps as a program finds them first
abbrev pub first_maps : ℕ → Program → MemberMaps
first_maps number program = record {
  number = number;
  specs = specs_of program.maps;
  maps = map first_map (specs_of program.maps);
}

-- made of the specs of this program, if it is one
abbrev pub is_made_for : Option Program → MemberMaps → Bool
is_made_for None entry = true
is_made_for (Some program) entry = same_specs entry.specs (specs_of program.maps)

abbrev pub suits : Library → Member → MemberMaps → Bool
suits library member entry = (entry.number == member.number) && is_made_for (program_of library member) entry

-- those that suit some member stay
abbrev pub staying : Library → List Member → List MemberMaps → List MemberMaps
staying library chain stores = filter (λ entry. list_any (λ member. suits library member entry) chain) stores

-- a program that none suits gets new ones
abbrev pub entering_as : Library → List MemberMaps → Member → Option Program → Option MemberMaps
entering_as library stores member None = None
entering_as library stores member (Some program) =
    if list_any (suits library member) stores then None else Some (first_maps member.number program)

abbrev pub entering : Library → List Member → List MemberMaps → List MemberMaps
entering library chain stores = filter_map (λ member. entering_as library stores member (program_of library member)) chain

-- what a packet finds
unfoldable pub prepared : Library → List Member → List MemberMaps → List MemberMaps
prepared library chain stores = staying library chain stores ++ entering library chain stores

-- the maps of a number, and the list with others in their place
abbrev pub entry_of : List MemberMaps → ℕ → Option MemberMaps
entry_of stores number = find (λ entry. entry.number == number) stores

abbrev pub maps_of : List MemberMaps → ℕ → List Map
maps_of stores number = option_map_or (λ entry. entry.maps) (entry_of stores number) []

abbrev pub with_maps : List MemberMaps → ℕ → List Map → List MemberMaps
with_maps [] number maps = []
with_maps (entry ∷ stores) number maps =
    if entry.number == number then record entry { maps = maps } ∷ stores else entry ∷ with_maps stores number maps

-- there are maps of a number, made of so many specs
abbrev pub HasMaps : List MemberMaps → ℕ → ℕ → Type 0
HasMaps stores number maps = (entry : MemberMaps) × (entry_of stores number ≡ Some entry) × (length entry.specs ≡ maps)

-- a program finds maps that were made for it
abbrev pub is_ready_as : Option Program → Option MemberMaps → Bool
is_ready_as None entry = true
is_ready_as (Some program) None = false
is_ready_as (Some program) (Some entry) = is_made_for (Some program) entry

abbrev pub is_ready : Library → List MemberMaps → Member → Bool
is_ready library stores member = is_ready_as (program_of library member) (entry_of stores member.number)

abbrev pub AreReady : Library → List MemberMaps → List Member → Type 0
AreReady library stores chain = list_all (is_ready library stores) chain ≡ true
