use Rattle.std.proofs.Common.{Some, ap, sym, ◌∙◌, arith}
use Rattle.elf_objects.specs.Section.{is_past_end}
use Rattle.elf_objects.proofs.Headers.{first_header, no_header}
use Rattle.elf_objects.proofs.section.section_past_end.Goals as goal

pub returns-then-is_past_end : goal.returns-then-is_past_end
returns-then-is_past_end c =
    let file = c.args.file.now in
    ap Some c.header_place.ensures.place ∙ sym (first_header file (is_past_end file) _ c.loop-number.invariant (omega arith) (cc))

pub returns : goal.returns
returns c =
    let file = c.args.file.now in
    sym (no_header file (is_past_end file) (λ k known. c.loop-number.invariant k (omega arith)))
