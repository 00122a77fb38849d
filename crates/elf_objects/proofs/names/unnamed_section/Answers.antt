use Rattle.std.proofs.Common.{Some, ap, sym, ◌∙◌, arith}
use Rattle.elf_objects.specs.Names.{is_unnamed}
use Rattle.elf_objects.proofs.Headers.{first_header, no_header}
use Rattle.elf_objects.proofs.names.unnamed_section.Goals as goal

pub returns-then-is_unnamed : goal.returns-then-is_unnamed
returns-then-is_unnamed c =
    let file = c.args.file.now in
    ap Some c.header_place.ensures.place ∙ sym (first_header file (is_unnamed file) _ c.loop-number.invariant (omega arith) (cc))

pub returns : goal.returns
returns c =
    let file = c.args.file.now in
    sym (no_header file (is_unnamed file) (λ k known. c.loop-number.invariant k (omega arith)))
