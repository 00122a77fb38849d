use Rattle.std.proofs.Common.{◌≡◌, ◌<◌, ◌≤◌, ◌⊎◌, ℕ, List, None, All, length, ap, subst, sym, ◌∙◌}
use Rattle.elf_objects.specs.declared.symbol.Symbol.{Symbol}
use Rattle.elf_objects.specs.Object.{first_break, sections, symbols}
use Rattle.elf_objects.proofs.References.{symbol_sections}
use Rattle.elf_objects.proofs.object.Object.symbols.Goals as goal

pub returns-clause-sections : goal.returns-clause-sections
returns-clause-sections c =
    let file = c.args.self.now in
    let unbroken = subst (λ (f : List ℕ). first_break f ≡ None) c.self.view_is c.self.invariant.unbroken in
    let rows = c.as_slice.ensures.value ∙ c.self.invariant.has_symbols ∙ ap symbols c.self.view_is in
    subst (λ (xs : List Symbol). All (λ s. (s.section < length (sections file)) ⊎ (0xff00 ≤ s.section)) xs) (sym rows) (symbol_sections file unbroken)
