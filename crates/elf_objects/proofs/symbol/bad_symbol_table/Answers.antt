use Rattle.std.proofs.Common.{Some, ap, sym, ◌∙◌, arith}
use Rattle.elf_objects.specs.Symbol.{is_bad_symbol_table}
use Rattle.elf_objects.proofs.Headers.{first_header, no_header}
use Rattle.elf_objects.proofs.symbol.bad_symbol_table.Goals as goal

pub returns-then-is_bad_symbol_table : goal.returns-then-is_bad_symbol_table
returns-then-is_bad_symbol_table c =
    let file = c.args.file.now in
    ap Some c.header_place.ensures.place ∙ sym (first_header file (is_bad_symbol_table file) _ c.loop-number.invariant (omega arith) (cc))

pub returns : goal.returns
returns c =
    let file = c.args.file.now in
    sym (no_header file (is_bad_symbol_table file) (λ k known. c.loop-number.invariant k (omega arith)))
