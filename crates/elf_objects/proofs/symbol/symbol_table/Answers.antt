use Rattle.std.proofs.Common.{sym, arith}
use Rattle.elf_objects.specs.Section.{section_count, is_of_kind}
use Rattle.elf_objects.specs.Symbol.{symbol_table}
use Rattle.elf_objects.proofs.Search.{find_some, find_none}
use Rattle.elf_objects.proofs.symbol.symbol_table.Goals as goal

pub returns-then-is_of_kind-clause-table : goal.returns-then-is_of_kind-clause-table
unfolding symbol_table
returns-then-is_of_kind-clause-table c =
    let file = c.args.file.now in
    sym (find_some (is_of_kind file 2) (section_count file) _ c.loop-number.invariant (omega arith) (cc))

pub returns-clause-table : goal.returns-clause-table
unfolding symbol_table
returns-clause-table c =
    let file = c.args.file.now in
    sym (find_none (is_of_kind file 2) (section_count file) (λ k below. c.loop-number.invariant k (omega arith)))
