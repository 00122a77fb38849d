use Rattle.std.proofs.Common.{◌+◌, ◌*◌, ◌/◌, Some, ap, sym, ◌∙◌, arith}
use Rattle.elf_objects.specs.declared.section.Section.{Section}
use Rattle.elf_objects.specs.Symbol.{symbol_count, symbol_place, symbol_tests, is_unnamed_symbol}
use Rattle.elf_objects.proofs.Search.{first_row, no_row}
use Rattle.elf_objects.proofs.symbol.unnamed_symbol.Goals as goal

pub returns-then-is_unnamed_symbol : goal.returns-then-is_unnamed_symbol
unfolding symbol_tests
returns-then-is_unnamed_symbol c =
    let file = c.args.file.now in
    let table = c.symbol_section-table.ensures.section in
    let count = ap (λ (s : Section). s.size / 24) table in
    ap (λ (s : Section). Some (s.offset + 24 * c.loop-index.index)) table
    ∙ sym (first_row (symbol_place file) (is_unnamed_symbol file) (λ i j h. omega arith) (symbol_count file) _ c.loop-index.invariant (omega arith) (cc))

pub returns : goal.returns
unfolding symbol_tests
returns c =
    let file = c.args.file.now in
    let count = ap (λ (s : Section). s.size / 24) c.symbol_section-table.ensures.section in
    sym (no_row (symbol_place file) (is_unnamed_symbol file) (λ i j h. omega arith) (symbol_count file) (λ k known. c.loop-index.invariant k (omega arith)))
