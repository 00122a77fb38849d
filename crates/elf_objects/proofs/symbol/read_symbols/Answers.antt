use Rattle.std.proofs.Common.{◌+◌, ◌*◌, ap, ◌∙◌}
use Rattle.elf_objects.specs.declared.section.Section.{Section}
use Rattle.elf_objects.specs.Symbol.{symbol_at, symbol}
use Rattle.elf_objects.proofs.Search.{map_more}
use Rattle.elf_objects.proofs.symbol.read_symbols.Goals as goal

pub loop-index-preserved : goal.loop-index-preserved
loop-index-preserved c =
    let file = c.args.file.now in
    map_more (symbol file) _ _ _ _ c.loop-index.invariant c.in_ok-push.ensures.items
    (c.symbol_at.ensures ∙ ap (λ (s : Section). symbol_at file (s.offset + 24 * c.loop-index.index)) c.symbol_section-table.ensures.section)
