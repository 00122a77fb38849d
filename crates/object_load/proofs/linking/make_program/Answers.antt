use Rattle.std.proofs.Common.{◌≡◌, List, length, Err, ap, subst, ◌∙◌, arith}
use Rattle.std.proofs.lemmas.Result.{err_from_is_err_and}
use Rattle.bpf_insn.specs.declared.insn.Insn.{Insn}
use Rattle.elf_objects.specs.declared.symbol.Symbol.{Symbol}
use Rattle.elf_objects.specs.Object.{section_name}
use Rattle.elf_objects.specs.Symbol.{symbol}
use Rattle.object_load.specs.Code.{code_bytes}
use Rattle.object_load.specs.Linking.{linked}
use Rattle.object_load.specs.Reading.{AnswersAt}
use Rattle.object_load.proofs.Linked.{program_ends, program_made}
use Rattle.object_load.proofs.ProgramSymbols.{code_length}
use Rattle.object_load.proofs.linking.make_program.Goals as goal

pub linked-requires-clause-small : goal.linked-requires-clause-small
linked-requires-clause-small c =
    let file = c.args.object.now in
    let s = c.program_symbol-symbol.result in
    let long = code_length file s c.program_symbol-symbol.ensures.within in
    let same = ap (λ (t : Symbol). length (code_bytes file t)) c.program_symbol-symbol.ensures.symbol in
    let small = c.requires.ready.small in
    omega (arith, c.requires.layout.has_size)

pub returns-in_err-insns-clause-program : goal.returns-in_err-insns-clause-program
returns-in_err-insns-clause-program c =
    let file = c.args.object.now in
    let maps = c.args.maps.now in
    let draft = c.args.draft.now in
    let end = c.in_err-insns.field-0.0 in
    let p = err_from_is_err_and c.from_residual.result c.from_residual.ensures.1 in
    let by_symbol = subst (λ (s : Symbol). AnswersAt (λ answer. answer ≡ linked file maps s c.as_slice.result.now) (Err end)) c.program_symbol-symbol.ensures.symbol c.in_err-insns.ensures.linked in
    let ends = subst (λ (xs : List Insn). AnswersAt (λ answer. answer ≡ linked file maps (symbol file draft.function.symbol) xs) (Err end)) c.as_slice.ensures by_symbol in
    rw (p.1, p.2) (program_ends file maps draft end ends)

pub returns-clause-program : goal.returns-clause-program
returns-clause-program c =
    let file = c.args.object.now in
    let maps = c.args.maps.now in
    let draft = c.args.draft.now in
    let is = c.program_symbol-symbol.ensures.symbol in
    let code = c.in_ok-insns.ensures.linked ∙ ap (λ (s : Symbol). linked file maps s c.as_slice.result.now) is ∙ ap (linked file maps (symbol file draft.function.symbol)) c.as_slice.ensures in
    let in_section = c.in_ok-section.ensures ∙ c.section_name.ensures ∙ ap (section_name file) (c.from.ensures ∙ ap (λ (s : Symbol). s.section) is) in
    let counted = c.len.ensures ∙ ap length c.in_ok-maps.ensures in
    program_made file maps draft c.in_ok-name.name c.in_ok-section.section c.in_ok-insns.insns c.len.result c.in_ok-maps.maps code (c.in_ok-name.ensures ∙ c.symbol_name.ensures) in_section counted c.in_ok-maps.ensures
