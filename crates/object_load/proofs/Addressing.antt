-- Addresses of constants, and distances of calls.
use Rattle.std.proofs.Common.{◌≡◌, ℕ, ℤ, pos, ◌+◌, ◌-◌, ◌+ℤ◌, ◌==◌, Option, Some, List, length, ap, ◌∙◌}
use Rattle.std.specs.List.{position, slice_get}
use Rattle.std.specs.Option.{option_and_then}
use Rattle.elf_objects.specs.declared.symbol.Symbol.{Symbol}
use Rattle.run_config.specs.declared.named_map.NamedMap.{NamedMap}
use Rattle.object_load.specs.Linking.{address_in, constant_address, value_address}

pub constant_at : (maps : List NamedMap) (constants : List ℕ) (s : Symbol) (imm : ℤ) (place : ℕ) (map : NamedMap) → position (λ number. number == s.section) constants ≡ Some place → slice_get maps (length maps - length constants + place) ≡ Some map → constant_address maps constants s imm ≡ value_address (length maps - length constants + place) map (pos s.value +ℤ imm)
unfolding constant_address
constant_at maps constants s imm place map is there =
    ap (λ (o : Option ℕ). option_and_then (λ at. address_in maps (pos s.value +ℤ imm) (length maps - length constants + at)) o) is
    ∙ ap (λ (o : Option NamedMap). option_and_then (λ one. value_address (length maps - length constants + place) one (pos s.value +ℤ imm)) o) there
