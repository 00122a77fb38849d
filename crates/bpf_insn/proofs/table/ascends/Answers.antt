use Rattle.std.proofs.Common.{rules}
use Rattle.std.specs.Prelude.{nat_lt}
use Rattle.std.proofs.lemmas.Fn.{always_returns_same}
use Rattle.bpf_insn.proofs.table.ascends.Goals as goal

pub returns : goal.returns
returns c = c.is_sorted_by.ensures.cases (λ a b. nat_lt a.opcode b.opcode) (always_returns_same _ _ _ (λ a r f' k. search rules))
