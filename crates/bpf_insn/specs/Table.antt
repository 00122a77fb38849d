-- Tables of forms.
use Rattle.std.specs.Prelude.{◌<◌, List, AllPairs, ℕ}
use Rattle.bpf_insn.specs.declared.table.Form.{Form}
use Rattle.bpf_insn.specs.Form.{Takes}

-- the rows of a table ascend by opcode, and no bytes are taken by two of them
pub record AreApart (rows : List Form) : Type 0 where
  pub ascending : AllPairs (λ a b. a.opcode < b.opcode) rows
  pub apart : AllPairs (λ a b. (bytes : List ℕ) → Takes a bytes → Takes b bytes → ⊥) rows
