-- What an object gives by the ends of the readers below.
use Rattle.std.proofs.Common.{◌≡◌, ℕ, List, Option, None, Some, Ok, Err, refl, sym, ap, ◌∙◌}
use Rattle.std.specs.Prelude.{codes}
use Rattle.std.specs.Option.{option_map}
use Rattle.btf_types.specs.declared.bad_btf.BadBtf.{BadBtf}
use Rattle.btf_types.specs.declared.bad_btf.BtfEnd.{BtfEnd}
use Rattle.btf_types.specs.declared.bad_btf.BtfEnd.TheVariants as ends
use Rattle.btf_types.specs.Breaks.{first_break}
use Rattle.btf_types.specs.Reading.{types_of}
use Rattle.btf_types.specs.TypeTable.{TypeTable}
use Rattle.elf_objects.specs.declared.bad_elf.BadElf.{BadElf}
use Rattle.elf_objects.specs.declared.bad_elf.ObjectEnd.{ObjectEnd}
use Rattle.elf_objects.specs.declared.bad_elf.ObjectEnd.TheVariants as object
use Rattle.elf_objects.specs.Object.{content}
use Rattle.elf_objects.specs.Object as elf
use Rattle.run_config.specs.declared.named_map.MapsEnd.{MapsEnd}
use Rattle.run_config.specs.declared.named_map.MapsEnd.TheVariants as maps
use Rattle.run_config.specs.Maps.{IsFirstBreak}
use Rattle.run_config.specs.Variables.{variables}
use Rattle.object_load.specs.declared.refusal.LoadRefusal.TheVariants as refusal
use Rattle.object_load.specs.Ends.{btf_end, maps_end, object_end}
use Rattle.object_load.specs.Maps.{broken, HasVariables}
use Rattle.object_load.specs.Reading.{refuse, Answers, Is}
use Rattle.object_load.specs.Sections.{section_named}
use Rattle.object_load.specs.Symbols.{object_of}
use Rattle.object_load.specs.Types.{btf, types_from, types_in}

-- the file
object_by : (file : List ℕ) (found : Option BadElf) → elf.first_break file ≡ found → object_of file ≡ refuse (option_map refusal.BadElf found) (Ok file)
unfolding object_of
object_by file found is = ap (λ (o : Option BadElf). refuse (option_map refusal.BadElf o) (Ok file)) is

pub object_made : (file : List ℕ) → elf.first_break file ≡ None → Ok file ≡ object_of file
object_made file none = sym (object_by file None none)

pub object_refused : (file : List ℕ) (end : ObjectEnd) → ((bad : BadElf) → end ≡ object.BadElf bad → elf.first_break file ≡ Some bad) → Answers (Is (object_of file)) (Err (object_end end))
object_refused file (object.BadElf bad) says = sym (object_by file (Some bad) (says bad refl))
object_refused file object.OutOfMemory says = tt

-- its types
types_by : (file : List ℕ) (number : Option ℕ) → section_named file (codes ".BTF") ≡ number → types_in file ≡ types_from (option_map (content file) number)
unfolding types_in btf
types_by file number is = ap (λ (o : Option ℕ). types_from (option_map (content file) o)) is

types_from-by : (bytes : List ℕ) (found : Option BadBtf) → first_break bytes ≡ found → types_from (Some bytes) ≡ refuse (option_map refusal.BadBtf found) (Ok (Some (types_of bytes)))
types_from-by bytes found is = ap (λ (o : Option BadBtf). refuse (option_map refusal.BadBtf o) (Ok (Some (types_of bytes)))) is

pub types_none : (file : List ℕ) → section_named file (codes ".BTF") ≡ None → Ok None ≡ types_in file
types_none file none = sym (types_by file None none)

module _ (file : List ℕ) (number : ℕ) (bytes : List ℕ) (there : section_named file (codes ".BTF") ≡ Some number) (is : bytes ≡ content file number) where
  at_bytes : types_in file ≡ types_from (Some bytes)
  at_bytes = types_by file (Some number) there ∙ ap (λ (b : List ℕ). types_from (Some b)) (sym is)

  pub types_made : (types : TypeTable) → first_break bytes ≡ None → types ≡ types_of bytes → Ok (Some types) ≡ types_in file
  types_made types none made = ap (λ (t : TypeTable). Ok (Some t)) made ∙ sym (at_bytes ∙ types_from-by bytes None none)

  pub types_refused : (end : BtfEnd) → ((bad : BadBtf) → end ≡ ends.BadBtf bad → first_break bytes ≡ Some bad) → Answers (Is (types_in file)) (Err (btf_end end))
  types_refused (ends.BadBtf bad) says = sym (at_bytes ∙ types_from-by bytes (Some bad) (says bad refl))
  types_refused ends.OutOfMemory says = tt

-- the maps of its variables
pub variables_refused : (file : List ℕ) (types : TypeTable) (end : MapsEnd) → ((index rule : ℕ) → end ≡ maps.BadMap index rule → IsFirstBreak types (variables types (codes ".maps")) index rule) → Answers (HasVariables file (Some types)) (Err (maps_end end))
variables_refused file types (maps.BadMap index rule) says = broken (says index rule refl)
variables_refused file types maps.OutOfMemory says = tt
