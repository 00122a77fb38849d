use Rattle.std.proofs.Common.{◌≡◌, ℕ, ◌++◌, List, ap, sym, ◌∙◌, arith}
use Rattle.std.specs.List.{flat_map, range_with_len}
use Rattle.elf_objects.specs.declared.reloc.Reloc.{Reloc}
use Rattle.elf_objects.specs.Section.{section_count}
use Rattle.elf_objects.proofs.Search.{flat_map_more}
use Rattle.object_load.specs.Linking.{relocs_for, relocs_from}
use Rattle.object_load.proofs.Counts.{sections_counted}
use Rattle.object_load.proofs.pieces.relocs_for.Goals as goal

pub loop-number-preserved : goal.loop-number-preserved
loop-number-preserved c =
    let relocs = relocs_from c.args.object.now c.args.target in
    let number = c.loop-number.number in
    record {
      found = c.in_ok-push_relocs.ensures.found ∙ ap (λ (found : List Reloc). found ++ relocs number) c.loop-number.invariant.found ∙ sym (flat_map_more relocs number);
      symbols = c.in_ok-push_relocs.ensures.symbols;
    }

pub returns-clause-relocs : goal.returns-clause-relocs
unfolding relocs_for
returns-clause-relocs c =
    let file = c.args.object.now in
    let count = sections_counted file in
    let end : c.loop-number.number ≡ section_count file = omega arith in
    c.loop-number.invariant.found ∙ ap (λ (n : ℕ). flat_map (relocs_from file c.args.target) (range_with_len 0 n)) end
