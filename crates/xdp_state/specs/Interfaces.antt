-- The interfaces of the script, by name.
use Rattle.std.specs.Prelude.{ℕ, nat_eq, Bool, List, length, position, unwrap_or}
use Rattle.std.specs.Cmp.Lexicographic.{pointwise}
use Rattle.std.specs.List.{list_any}
use Rattle.xdp_state.specs.declared.interface.Interface.{Interface}

abbrev pub has_name : List ℕ → Interface → Bool
has_name name interface = pointwise nat_eq interface.name name

abbrev pub is_declared : List Interface → List ℕ → Bool
is_declared interfaces name = list_any (has_name name) interfaces

-- the number of the interface of this name, or how many there are
abbrev pub interface_named : List Interface → List ℕ → ℕ
interface_named interfaces name = unwrap_or (position (has_name name) interfaces) (length interfaces)
