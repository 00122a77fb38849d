use Rattle.std.proofs.Common.{Some, ap, sym, ◌∙◌, arith}
use Rattle.elf_objects.specs.Section.{is_compressed}
use Rattle.elf_objects.proofs.Headers.{first_header, no_header}
use Rattle.elf_objects.proofs.section.compressed_section.Goals as goal

pub returns-then-is_compressed : goal.returns-then-is_compressed
returns-then-is_compressed c =
    let file = c.args.file.now in
    ap Some c.header_place.ensures.place ∙ sym (first_header file (is_compressed file) _ c.loop-number.invariant (omega arith) (cc))

pub returns : goal.returns
returns c =
    let file = c.args.file.now in
    sym (no_header file (is_compressed file) (λ k known. c.loop-number.invariant k (omega arith)))
