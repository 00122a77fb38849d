-- The code of a program: its function, and behind it the functions that programs call.
use Rattle.std.specs.Prelude.{◌≡◌, ℕ, ◌*◌, ◌<◌, ◌≤◌, List, ◌++◌, length, take, drop, Result, Ok, Err}
use Rattle.bpf_insn.specs.declared.insn.Insn.{Insn}
use Rattle.bpf_insn.specs.Code.{Decodes, IsCode}
use Rattle.elf_objects.specs.declared.symbol.Symbol.{Symbol}
use Rattle.elf_objects.specs.Symbol.{symbol}
use Rattle.elf_objects.specs.Object.{content}
use Rattle.object_load.specs.declared.refusal.LoadRefusal.{LoadRefusal}
use Rattle.object_load.specs.declared.refusal.LoadRefusal.TheVariants.{BadInsn}
use Rattle.object_load.specs.declared.drafts.Draft.{Draft}
use Rattle.object_load.specs.declared.drafts.Function.{Function}
use Rattle.object_load.specs.Reading.{Each}
use Rattle.object_load.specs.Sections.{text}
use Rattle.object_load.specs.Symbols.{IsProgram}

-- the bytes of a symbol's function
unfoldable pub function_bytes : List ℕ → Symbol → List ℕ
function_bytes file s = take s.size (drop s.value (content file s.section))

unfoldable pub code_bytes : List ℕ → Symbol → List ℕ
code_bytes file s = function_bytes file s ++ text file

abbrev pub most_slots : ℕ
most_slots = 65536

-- the instructions of bytes, or the slot where they end: the first behind the most that a code may have, or one that none of
-- the table's rows takes
pub data HasInsns (bytes : List ℕ) : Result (List Insn) ℕ → Type 0 where
  too_long : 8 * most_slots < length bytes → HasInsns bytes (Err most_slots)
  decoded : {answer : Result (List Insn) ℕ} → length bytes ≤ 8 * most_slots → Decodes bytes answer → HasInsns bytes answer

abbrev pub IsDraft : List ℕ → Function → Result Draft ℕ → Type 0
IsDraft file function (Ok draft) =
    (draft.function ≡ function) × HasInsns (code_bytes file (symbol file function.symbol)) (Ok draft.insns)
IsDraft file function (Err slot) = HasInsns (code_bytes file (symbol file function.symbol)) (Err slot)

abbrev pub AreDrafts : List ℕ → List Function → Result (List Draft) LoadRefusal → Type 0
AreDrafts file functions = Each (IsDraft file) BadInsn functions

-- a draft that can be linked: of a program, with a code that can be written and isn't too long
pub record IsReady (file : List ℕ) (draft : Draft) : Type 0 where
  pub program : IsProgram file draft.function.symbol
  pub code : IsCode draft.insns
  pub small : length (code_bytes file (symbol file draft.function.symbol)) ≤ 8 * most_slots
