use Rattle.std.proofs.Common.{◌+◌, ◌/◌, ◌%◌, ◌<◌, ◌≤◌, Bool, List, [], All, cond, length, get_or, ap, subst, sym, ◌∙◌, arith}
use Rattle.std.proofs.lemmas.Bool.{eq-eqb}
use Rattle.elf_objects.specs.declared.reloc.Reloc.{Reloc}
use Rattle.elf_objects.specs.Reloc.{relocs_at, relocs_of}
use Rattle.elf_objects.specs.RelocTables.{reloc_tables}
use Rattle.elf_objects.specs.Object.{symbols}
use Rattle.elf_objects.proofs.Contents.{rel_fits}
use Rattle.elf_objects.proofs.Rows.{part_within, slice_is}
use Rattle.elf_objects.proofs.References.{reloc_symbols}
use Rattle.elf_objects.proofs.Soundness.{sound}
use Rattle.elf_objects.proofs.object.Object.relocs.Goals as goal

pub slice-requires-clause-within : goal.slice-requires-clause-within
slice-requires-clause-within c =
    let file = c.args.self.now in
    let s = c.section-section.result in
    let is = c.section-section.ensures in
    let fits = rel_fits file c.args.section s (sound file is.unbroken).contents.contents is.known is.section c.if-section-ne-REL.false in
    let tables = c.self.invariant.has_relocs ∙ ap reloc_tables c.self.view_is in
    subst (λ (kept : List (List Reloc)). s.offset / 16 + s.size / 16 ≤ length (get_or kept (s.offset % 16) [])) (sym tables)
    (part_within file c.args.section s is.known is.section c.if-section-ne-REL.false fits)

pub returns-clause-relocs : goal.returns-clause-relocs
returns-clause-relocs c =
    let file = c.args.self.now in
    let s = c.section-section.result in
    let is = c.section-section.ensures in
    let rel = c.if-section-ne-REL.false in
    let fits = rel_fits file c.args.section s (sound file is.unbroken).contents.contents is.known is.section rel in
    let tables = c.self.invariant.has_relocs ∙ ap reloc_tables c.self.view_is in
    slice_is file c.args.section s is.known is.section rel fits _ _ tables c.slice.ensures
    ∙ ap (λ (b : Bool). cond b (relocs_at file s.offset (s.size / 16)) []) (sym (eq-eqb s.kind 9 rel)) ∙ ap (relocs_of file) is.section

pub returns-clause-symbols : goal.returns-clause-symbols
returns-clause-symbols c =
    let file = c.args.self.now in
    let s = c.section-section.result in
    let is = c.section-section.ensures in
    let rel = c.if-section-ne-REL.false in
    let fits = rel_fits file c.args.section s (sound file is.unbroken).contents.contents is.known is.section rel in
    let tables = c.self.invariant.has_relocs ∙ ap reloc_tables c.self.view_is in
    subst (λ (rows : List Reloc). All (λ r. r.symbol < length (symbols file)) rows)
    (sym (slice_is file c.args.section s is.known is.section rel fits _ _ tables c.slice.ensures))
    (reloc_symbols file c.args.section s is.unbroken is.known is.section rel)

pub returns-then-section-ne-REL-clause-symbols : goal.returns-then-section-ne-REL-clause-symbols
returns-then-section-ne-REL-clause-symbols c = λ k d known. absurd (omega arith)
