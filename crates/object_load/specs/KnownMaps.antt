-- The maps that names of symbols stand for, as they are kept once they were looked up.
use Rattle.std.specs.Prelude.{◌≡◌, ℕ, ◌-◌, nat_lt, List, get_or, position, Option, Some, None, if◌then◌else◌}
use Rattle.std.specs.Str.{bytes_eq}
use Rattle.elf_objects.specs.Symbol.{symbol}
use Rattle.elf_objects.specs.Object.{symbol_name}
use Rattle.run_config.specs.declared.named_map.NamedMap.{NamedMap}

-- the map of a name by the name's place; 0 is none
unfoldable pub known_at : List ℕ → ℕ → Option ℕ
known_at known place = if nat_lt 0 (get_or known place 0) then Some (get_or known place 0 - 1) else None

-- what is known is the first map of a symbol's name
pub record AreKnown (file : List ℕ) (maps : List NamedMap) (known : List ℕ) : Type 0 where
  pub each : (index number : ℕ) → known_at known (symbol file index).name ≡ Some number → position (λ map. bytes_eq map.name (symbol_name file index)) maps ≡ Some number
