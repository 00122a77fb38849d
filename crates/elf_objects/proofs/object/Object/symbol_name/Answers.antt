use Rattle.std.proofs.Common.{◌≤◌, ℕ, List, length, ap, subst, sym, ◌∙◌}
use Rattle.elf_objects.specs.Symbol.{symbol_names}
use Rattle.elf_objects.proofs.Soundness.{symbol_name_within}
use Rattle.elf_objects.proofs.object.Object.symbol_name.Goals as goal

pub name_at-requires : goal.name_at-requires
name_at-requires c =
    let file = c.args.self.now in
    let table = c.self.invariant.has_symbol_names ∙ ap symbol_names c.self.view_is in
    subst (λ (names : List ℕ). c.symbol.result.name ≤ length names) (sym table)
    (symbol_name_within file c.args.symbol c.symbol.result c.symbol.ensures.unbroken c.symbol.ensures.known c.symbol.ensures.symbol)
