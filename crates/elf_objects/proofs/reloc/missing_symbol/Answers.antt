use Rattle.std.proofs.Common.{ℕ, Option, ap, sym, ◌∙◌}
use Rattle.std.specs.List.{flat_map, range_with_len}
use Rattle.elf_objects.specs.Breaks.{earlier, first_place}
use Rattle.elf_objects.specs.Reloc.{reloc_tests}
use Rattle.elf_objects.proofs.Search.{first_place-append, flat_map_more}
use Rattle.elf_objects.proofs.reloc.missing_symbol.Goals as goal

pub loop-number-preserved : goal.loop-number-preserved
loop-number-preserved c =
    let tests = reloc_tests c.args.file.now in
    let number = c.loop-number.number in
    c.earlier-least.ensures ∙ ap (earlier c.loop-number.least) c.missing_symbol_in.ensures
    ∙ ap (λ (least : Option ℕ). earlier least (first_place (tests number))) c.loop-number.invariant
    ∙ sym (ap first_place (flat_map_more tests number) ∙ first_place-append (flat_map tests (range_with_len 0 number)) (tests number))
