use Rattle.std.proofs.Common.{◌≡◌, Bool, List, Some, None, ◌++◌, ◌/◌, false, get_or, ap, sym, ◌∙◌}
use Rattle.bpf_insn.specs.declared.insn.Insn.{Insn}
use Rattle.elf_objects.specs.declared.reloc.Reloc.{Reloc}
use Rattle.object_load.specs.declared.pieces.Piece.TheVariants.{Own}
use Rattle.object_load.specs.Linking.{first_stray, fixes_in, relocs_for}
use Rattle.object_load.proofs.Linked.{linked_by, refused_own, refused_text}
use Rattle.object_load.proofs.linking.linked.Goals as goal

pub returns-in-Err-clause-linked : goal.returns-in-Err-clause-linked
returns-in-Err-clause-linked c =
    let file = c.args.object.now in
    let s = c.args.symbol in
    let insns = c.args.insns.now in
    let same = c.in_ok-append.ensures ∙ ap (λ (xs : List Insn). xs ++ insns) c.new-code.ensures in
    let are = c.as_slice.ensures ∙ c.in_ok-relocs.ensures.relocs ∙ ap (relocs_for file) c.from.ensures in
    refused_own file c.args.maps.now s insns c.append.new.list c.as_slice.result.now same are c.in-Err.slot c.in-Err.ensures.fixed

pub returns-in-Err-fix_all-clause-linked : goal.returns-in-Err-fix_all-clause-linked
returns-in-Err-fix_all-clause-linked c =
    let file = c.args.object.now in
    let s = c.args.symbol in
    let insns = c.args.insns.now in
    let same = c.in_ok-append.ensures ∙ ap (λ (xs : List Insn). xs ++ insns) c.new-code.ensures in
    let are = c.as_slice.ensures ∙ c.in_ok-relocs.ensures.relocs ∙ ap (relocs_for file) c.from.ensures in
    refused_text file c.args.maps.now s insns c.append.new.list c.as_slice.result.now same are c.fix_all.new.insns c.as_slice-2.result.now c.args.layout.now.text_size c.in_default.ensures.fixed (c.as_slice-2.ensures ∙ c.requires.layout.has_relocs) c.requires.layout.has_size c.in-Err-fix_all.slot c.in-Err-fix_all.ensures.fixed

pub returns-in-Some-clause-linked : goal.returns-in-Some-clause-linked
returns-in-Some-clause-linked c =
    let file = c.args.object.now in
    let s = c.args.symbol in
    let insns = c.args.insns.now in
    let code = c.fix_all-2.new.insns in
    let same = c.in_ok-append.ensures ∙ ap (λ (xs : List Insn). xs ++ insns) c.new-code.ensures in
    let are = c.as_slice.ensures ∙ c.in_ok-relocs.ensures.relocs ∙ ap (relocs_for file) c.from.ensures in
    let stray = c.in-Some.ensures (fixes_in (Own s.value s.size) c.as_slice-3.result.now) (λ slot below. ap (λ (marks : List Bool). get_or marks slot false) c.as_slice-4.ensures.value ∙ c.in_ok-marks.ensures.fixed slot below) in
    let first : Some c.in-Some.slot ≡ first_stray (fixes_in (Own s.value s.size) c.as_slice.result.now) code (s.size / 8) = stray ∙ ap (λ (rs : List Reloc). first_stray (fixes_in (Own s.value s.size) rs) code (s.size / 8)) (c.as_slice-3.ensures ∙ sym c.as_slice.ensures) in
    linked_by file c.args.maps.now s insns c.append.new.list c.as_slice.result.now same are c.fix_all.new.insns c.as_slice-2.result.now c.args.layout.now.text_size c.in_default.ensures.fixed (c.as_slice-2.ensures ∙ c.requires.layout.has_relocs) c.requires.layout.has_size code (Some c.in-Some.slot) c.in_default-fix_all.ensures.fixed first

pub returns-clause-linked : goal.returns-clause-linked
returns-clause-linked c =
    let file = c.args.object.now in
    let s = c.args.symbol in
    let insns = c.args.insns.now in
    let code = c.fix_all-2.new.insns in
    let same = c.in_ok-append.ensures ∙ ap (λ (xs : List Insn). xs ++ insns) c.new-code.ensures in
    let are = c.as_slice.ensures ∙ c.in_ok-relocs.ensures.relocs ∙ ap (relocs_for file) c.from.ensures in
    let stray = c.in-None.ensures (fixes_in (Own s.value s.size) c.as_slice-3.result.now) (λ slot below. ap (λ (marks : List Bool). get_or marks slot false) c.as_slice-4.ensures.value ∙ c.in_ok-marks.ensures.fixed slot below) in
    let first : None ≡ first_stray (fixes_in (Own s.value s.size) c.as_slice.result.now) code (s.size / 8) = stray ∙ ap (λ (rs : List Reloc). first_stray (fixes_in (Own s.value s.size) rs) code (s.size / 8)) (c.as_slice-3.ensures ∙ sym c.as_slice.ensures) in
    linked_by file c.args.maps.now s insns c.append.new.list c.as_slice.result.now same are c.fix_all.new.insns c.as_slice-2.result.now c.args.layout.now.text_size c.in_default.ensures.fixed (c.as_slice-2.ensures ∙ c.requires.layout.has_relocs) c.requires.layout.has_size code None c.in_default-fix_all.ensures.fixed first
