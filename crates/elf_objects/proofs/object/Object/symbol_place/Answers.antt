use Rattle.std.proofs.Common.{◌≡◌, ℕ, ◌<◌, ◌/◌, List, ap, subst, sym, arith}
use Rattle.elf_objects.specs.declared.section.Section.{Section}
use Rattle.elf_objects.specs.Section.{HasHeaders}
use Rattle.elf_objects.specs.Symbol.{symbol_count}
use Rattle.elf_objects.proofs.Soundness.{sound}
use Rattle.elf_objects.proofs.object.Object.symbol_place.Goals as goal

pub symbol_section-requires : goal.symbol_section-requires
symbol_section-requires c =
    subst HasHeaders (sym c.self.view_is) (sound c.args.self.now c.symbol-known.ensures.unbroken).contents.headers

pub overflow_add-result : goal.overflow_add-result
overflow_add-result c =
    let file = c.self.inside.file.now in
    let within = c.symbol_section.ensures.within (sound file c.self.invariant.unbroken).contents.contents in
    let known = subst (λ (f : List ℕ). c.args.symbol < symbol_count f) (sym c.self.view_is) c.symbol-known.ensures.known in
    let count : symbol_count file ≡ c.symbol_section.result.size / 24 = ap (λ (s : Section). s.size / 24) (sym c.symbol_section.ensures.section) in
    omega (arith, within, known, count, c.from.ensures)
