-- What a symbol names (System V ABI, "Symbol Table").
use Rattle.std.specs.Prelude.{◌%◌, ◌==◌, Bool}
use Rattle.elf_objects.specs.Numbers.{stt_func}
use Rattle.elf_objects.specs.declared.symbol.Symbol.{Symbol}

-- the type is in the low four bits of the info
abbrev pub is_function : Symbol → Bool
is_function symbol = symbol.info % 16 == stt_func
