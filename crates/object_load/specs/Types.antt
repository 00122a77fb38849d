-- The types of an object, and the run configurations of its programs.
use Rattle.std.specs.Prelude.{◌≡◌, ℕ, List, codes, Option, Some, None, Result, Ok, Err, option_map}
use Rattle.btf_types.specs.Breaks.{first_break}
use Rattle.btf_types.specs.Reading.{types_of}
use Rattle.btf_types.specs.TypeTable.{TypeTable}
use Rattle.elf_objects.specs.Object.{content, symbol_name}
use Rattle.run_config.specs.declared.config.BadConfig.{BadConfig}
use Rattle.run_config.specs.declared.settings.RunConfig.{RunConfig}
use Rattle.run_config.specs.Config.{IsConfig}
use Rattle.object_load.specs.declared.refusal.LoadRefusal.{LoadRefusal}
use Rattle.object_load.specs.declared.refusal.LoadRefusal.TheVariants as refusal
use Rattle.object_load.specs.declared.drafts.Function.{Function}
use Rattle.object_load.specs.Reading.{Each, refuse}
use Rattle.object_load.specs.Sections.{section_named}

-- the bytes of the first section `.BTF`
unfoldable pub btf : List ℕ → Option (List ℕ)
btf file = option_map (content file) (section_named file (codes ".BTF"))

-- the types of these bytes; an object may have none
abbrev pub types_from : Option (List ℕ) → Result (Option TypeTable) LoadRefusal
types_from None = Ok None
types_from (Some bytes) = refuse (option_map refusal.BadBtf (first_break bytes)) (Ok (Some (types_of bytes)))

unfoldable pub types_in : List ℕ → Result (Option TypeTable) LoadRefusal
types_in file = types_from (btf file)

-- the configuration of a function: without types it is the one of a function that has no variable for it
abbrev pub HasConfig : Option TypeTable → List ℕ → Result RunConfig BadConfig → Type 0
HasConfig None name answer = answer ≡ Ok (record { priority = 50; mask = 4 })
HasConfig (Some types) name answer = IsConfig types name answer

-- a symbol's function, with its configuration
abbrev pub IsFunction : List ℕ → Option TypeTable → ℕ → Result Function BadConfig → Type 0
IsFunction file types index (Ok function) =
    (function.symbol ≡ index) × HasConfig types (symbol_name file index) (Ok function.config)
IsFunction file types index (Err bad) = HasConfig types (symbol_name file index) (Err bad)

abbrev pub config_refusal : ℕ → BadConfig → LoadRefusal
config_refusal place bad = refusal.BadConfig bad.member

abbrev pub AreFunctions : List ℕ → Option TypeTable → List ℕ → Result (List Function) LoadRefusal → Type 0
AreFunctions file types indexes = Each (IsFunction file types) config_refusal indexes
