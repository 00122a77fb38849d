use Rattle.std.proofs.Common.{◌≡◌, ◌+◌, ◌<◌, ◌≤◌, length, subst, sym, rules}
use Rattle.elf_objects.specs.declared.section.Section.{Section}
use Rattle.elf_objects.specs.Section.{section_count}
use Rattle.elf_objects.specs.Symbol.{symbol_section}
use Rattle.elf_objects.proofs.SymbolTable.{symbols_within, names_known}
use Rattle.elf_objects.proofs.symbol.symbol_section.Goals as goal

pub returns-in-Some-clause-within : goal.returns-in-Some-clause-within
returns-in-Some-clause-within c = λ none.
    let file = c.args.file.now in
    let is : c.section_at.result ≡ symbol_section file = search rules in
    subst (λ (s : Section). s.offset + s.size ≤ length file) (sym is) (symbols_within file none)

pub returns-in-Some-clause-names : goal.returns-in-Some-clause-names
returns-in-Some-clause-names c = λ contents good.
    let file = c.args.file.now in
    let is : c.section_at.result ≡ symbol_section file = search rules in
    subst (λ (s : Section). s.link < section_count file) (sym is) (names_known file contents good)
