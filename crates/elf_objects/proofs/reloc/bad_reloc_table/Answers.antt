use Rattle.std.proofs.Common.{Some, ap, sym, ◌∙◌, arith}
use Rattle.elf_objects.specs.Reloc.{is_bad_reloc_table}
use Rattle.elf_objects.proofs.Headers.{first_header, no_header}
use Rattle.elf_objects.proofs.reloc.bad_reloc_table.Goals as goal

pub returns-then-is_bad_reloc_table : goal.returns-then-is_bad_reloc_table
returns-then-is_bad_reloc_table c =
    let file = c.args.file.now in
    ap Some c.header_place.ensures.place ∙ sym (first_header file (is_bad_reloc_table file) _ c.loop-number.invariant (omega arith) (cc))

pub returns : goal.returns
returns c =
    let file = c.args.file.now in
    sym (no_header file (is_bad_reloc_table file) (λ k known. c.loop-number.invariant k (omega arith)))
