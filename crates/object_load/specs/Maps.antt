-- The maps of an object: those of the section `.maps` by their types, and behind them one for each section of constants.
use Rattle.std.specs.Prelude.{◌≡◌, ℕ, Bool, true, false, ◌==◌, ◌&&◌, not, List, [], ◌++◌, length, codes, map, Option, Some, None, Result, Ok, Err, option_map, ⊤}
use Rattle.std.specs.List.{list_any}
use Rattle.btf_types.specs.TypeTable.{TypeTable}
use Rattle.elf_objects.specs.Section.{section, section_numbers}
use Rattle.elf_objects.specs.Object.{content, section_name}
use Rattle.map_store.specs.declared.spec.MapKind.TheVariants.{Array}
use Rattle.run_config.specs.declared.named_map.NamedMap.{NamedMap}
use Rattle.run_config.specs.Maps.{AreMaps, IsFirstBreak, specs_of}
use Rattle.run_config.specs.MapRules.{MapBreak, first_break, rule_behind}
use Rattle.run_config.specs.Variables.{variables}
use Rattle.object_load.specs.declared.refusal.LoadEnd.{LoadEnd}
use Rattle.object_load.specs.declared.refusal.LoadEnd.TheVariants.{Refused, OutOfMemory}
use Rattle.object_load.specs.declared.refusal.LoadRefusal.{LoadRefusal}
use Rattle.object_load.specs.declared.refusal.LoadRefusal.TheVariants.{BadMap}
use Rattle.object_load.specs.Reading.{Is, Then, refuse}
use Rattle.object_load.specs.Sections.{has_name, constant_sections}

-- a section of maps that isn't empty
unfoldable pub holds_maps : List ℕ → ℕ → Bool
holds_maps file number = has_name file (codes ".maps") number && not ((section file number).size == 0)

unfoldable pub has_maps : List ℕ → Bool
has_maps file = list_any (holds_maps file) (section_numbers file)

-- the maps of `.maps`; without types there are none, and no such section that isn't empty
pub data HasVariables (file : List ℕ) : Option TypeTable → Result (List NamedMap) LoadRefusal → Type 0 where
  untyped : has_maps file ≡ true → HasVariables file None (Err (BadMap 0 1))
  nothing : has_maps file ≡ false → HasVariables file None (Ok [])
  read : {types : TypeTable} {maps : List NamedMap} → AreMaps types (variables types (codes ".maps")) maps
      → HasVariables file (Some types) (Ok maps)
  broken : {types : TypeTable} {index rule : ℕ} → IsFirstBreak types (variables types (codes ".maps")) index rule
      → HasVariables file (Some types) (Err (BadMap index rule))

-- the map of a section of constants: an array of one entry
unfoldable pub constant_map : List ℕ → ℕ → NamedMap
constant_map file number = record {
  name = section_name file number;
  spec = record { kind = Array; key_size = 4; value_size = length (content file number); max_entries = 1; initial = content file number };
}

abbrev pub map_refusal : MapBreak → LoadRefusal
map_refusal bad = BadMap bad.index bad.rule

-- maps with these sections of constants behind them, or the first rule that one of these breaks there
unfoldable pub with_constants : List ℕ → List NamedMap → List ℕ → Result (List NamedMap) LoadRefusal
with_constants file maps numbers =
    let constants = map (constant_map file) numbers in
    refuse (option_map map_refusal (first_break (specs_of maps) (specs_of constants))) (Ok (maps ++ constants))

abbrev pub HasMaps : List ℕ → Option TypeTable → Result (List NamedMap) LoadRefusal → Type 0
HasMaps file types = Then (HasVariables file types) (λ maps. Is (with_constants file maps (constant_sections file)))

-- a map isn't put behind others: it breaks this rule there, or memory was wanting
abbrev pub IsBroken : List NamedMap → NamedMap → LoadEnd → Type 0
IsBroken before map (Refused refused) =
    (rule : ℕ) × (rule_behind (specs_of before) map.spec ≡ Some rule) × (refused ≡ BadMap (length before) rule)
IsBroken before map OutOfMemory = ⊤
