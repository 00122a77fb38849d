use Rattle.std.proofs.Common.{arith}
use Rattle.elf_objects.proofs.NameTables.{has_name-end}
use Rattle.elf_objects.proofs.names.names_end.Goals as goal

pub returns-else-table-end-ne0 : goal.returns-else-table-end-ne0
returns-else-table-end-ne0 c = λ place.
    has_name-end c.args.table.now c.loop-end.end place c.loop-end.invariant.0 c.loop-end.invariant.1 (λ _. c.if-table-end-ne0.false)

pub returns-after-loop-end : goal.returns-after-loop-end
returns-after-loop-end c = λ place.
    has_name-end c.args.table.now c.loop-end.end place c.loop-end.invariant.0 c.loop-end.invariant.1 (λ some. absurd (omega arith))
