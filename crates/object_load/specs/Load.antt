-- What the bytes of an object say: its programs, or the first refusal in the order of `LoadRefusal`, each over all programs.
use Rattle.std.specs.Prelude.{◌≡◌, ℕ, List, length, Option, Result}
use Rattle.bpf_insn.specs.Code.{IsCode}
use Rattle.btf_types.specs.TypeTable.{TypeTable}
use Rattle.map_store.specs.Initial.{AreMakeable}
use Rattle.run_config.specs.declared.named_map.NamedMap.{NamedMap}
use Rattle.run_config.specs.Maps.{specs_of}
use Rattle.object_load.specs.declared.drafts.Draft.{Draft}
use Rattle.object_load.specs.declared.drafts.Function.{Function}
use Rattle.object_load.specs.declared.program.Program.{Program}
use Rattle.object_load.specs.declared.refusal.LoadRefusal.{LoadRefusal}
use Rattle.object_load.specs.declared.refusal.LoadRefusal.TheVariants.{BadReloc}
use Rattle.object_load.specs.Reading.{Is, Then, Each}
use Rattle.object_load.specs.Symbols.{object_of, programs_in}
use Rattle.object_load.specs.Types.{types_in, AreFunctions}
use Rattle.object_load.specs.Maps.{HasMaps}
use Rattle.object_load.specs.Code.{AreDrafts}
use Rattle.object_load.specs.Linking.{program_of}

abbrev pub ArePrograms : List ℕ → List NamedMap → List Draft → Result (List Program) LoadRefusal → Type 0
ArePrograms file maps drafts = Each (λ draft answer. answer ≡ program_of file maps draft) BadReloc drafts

-- the steps of a load, each with what the ones before it gave
abbrev pub LoadsMapped : List ℕ → List Function → List NamedMap → Result (List Program) LoadRefusal → Type 0
LoadsMapped file functions maps = Then (AreDrafts file functions) (ArePrograms file maps)

abbrev pub LoadsFunctions : List ℕ → Option TypeTable → List Function → Result (List Program) LoadRefusal → Type 0
LoadsFunctions file types functions = Then (HasMaps file types) (LoadsMapped file functions)

abbrev pub LoadsTyped : List ℕ → List ℕ → Option TypeTable → Result (List Program) LoadRefusal → Type 0
LoadsTyped file indexes types = Then (AreFunctions file types indexes) (LoadsFunctions file types)

abbrev pub LoadsSymbols : List ℕ → List ℕ → Result (List Program) LoadRefusal → Type 0
LoadsSymbols file indexes = Then (Is (types_in file)) (LoadsTyped file indexes)

abbrev pub LoadsObject : List ℕ → Result (List Program) LoadRefusal → Type 0
LoadsObject file = Then (Is (programs_in file)) (LoadsSymbols file)

abbrev pub Loads : List ℕ → Result (List Program) LoadRefusal → Type 0
Loads file = Then (Is (object_of file)) LoadsObject

-- what a machine and a store ask of a program
pub record IsRunnable (program : Program) : Type 0 where
  pub code : IsCode program.code.insns
  pub count : program.code.maps ≡ length program.maps
  pub maps : AreMakeable (specs_of program.maps)
