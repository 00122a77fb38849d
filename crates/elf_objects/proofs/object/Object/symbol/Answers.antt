use Rattle.std.proofs.Common.{length, ◌∙◌, ap, arith}
use Rattle.elf_objects.specs.Symbol.{symbol, symbol_count}
use Rattle.elf_objects.specs.Object.{symbols}
use Rattle.elf_objects.proofs.Rows.{row_at, row_known}
use Rattle.elf_objects.proofs.object.Object.symbol.Goals as goal

pub returns-clause-known : goal.returns-clause-known
returns-clause-known c = row_known (symbol c.args.self.now) (symbol_count c.args.self.now) c.args.index c.requires

pub returns-clause-symbol : goal.returns-clause-symbol
returns-clause-symbol c =
    let rows = c.self.invariant.has_symbols ∙ ap symbols c.self.view_is in
    let counted = ap length rows in
    c.index.ensures ∙ row_at (symbol c.args.self.now) (symbol_count c.args.self.now) c.self.inside.symbols.items c.args.index _ rows (omega arith)
