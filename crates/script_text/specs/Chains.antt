-- The table of `xdp-loader status`, behind its first line: of each interface its mode, and its members in the order in which they run.
use Rattle.std.specs.Prelude.{ℕ, ◌+◌, List, [], ◌∷◌, ◌++◌, slice_get, codes, Option, Some, None}
use Rattle.std.specs.Fmt.{decimal}
use Rattle.std.specs.Option.{option_map_or}
use Rattle.chain_order.specs.declared.member.Member.{Member}
use Rattle.script_text.specs.Lists.{mask_text}
use Rattle.script_text.specs.Vocabulary.{mode_name}
use Rattle.xdp_state.specs.Book.{Book}
use Rattle.xdp_state.specs.Dump.{name_of}
use Rattle.xdp_state.specs.Members.{chain_on, mode_on}
use Rattle.xdp_state.specs.declared.interface.Interface.{Interface}
use Rattle.xdp_state.specs.declared.library.Library.{Library}
use Rattle.xdp_state.specs.declared.mode.Mode.{Mode}

-- `-` where there is no member
abbrev pub mode_text : Option Mode → List ℕ
mode_text None = codes "-"
mode_text (Some mode) = mode_name mode

-- a member's priority, name, number, and the actions after which the chain goes on
unfoldable pub member_line : Library → Member → List ℕ
member_line library member =
    (codes "  " ++ (decimal member.priority ++ (codes " " ++ (name_of library member.kind ++ (codes " #" ++ (decimal member.number ++ codes " "))))))
    ++ (mask_text member.mask ++ codes "\n")

abbrev pub members_text : Library → List Member → List ℕ
members_text library [] = []
members_text library (member ∷ members) = member_line library member ++ members_text library members

unfoldable pub interface_line : List ℕ → Option Mode → List ℕ
interface_line name mode = codes "  " ++ (name ++ (codes " " ++ (mode_text mode ++ codes "\n")))

-- the interface of this number
unfoldable pub interface_text : Library → Book → ℕ → List ℕ → List ℕ
interface_text library book place name =
    interface_line name (mode_on book.members place) ++ members_text library (chain_on book.members place)

abbrev pub chain_text : Library → Book → ℕ → List ℕ
chain_text library book place = option_map_or (λ interface. interface_text library book place interface.name) (slice_get library.interfaces place) []

-- the interfaces from this number on
abbrev pub chains_from : Library → Book → ℕ → List Interface → List ℕ
chains_from library book place [] = []
chains_from library book place (interface ∷ more) =
    interface_text library book place interface.name ++ chains_from library book (place + 1) more

unfoldable pub chains_text : Library → Book → List ℕ
chains_text library book = chains_from library book 0 library.interfaces
