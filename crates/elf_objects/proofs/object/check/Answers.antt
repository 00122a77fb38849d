use Rattle.std.proofs.Common.{sym}
use Rattle.std.proofs.lemmas.Result.{err_from_is_err_and}
use Rattle.elf_objects.specs.Header.{header_rules}
use Rattle.elf_objects.specs.Object.{first_break, table_rules}
use Rattle.elf_objects.proofs.Soundness.{first_broken-append}
use Rattle.elf_objects.proofs.object.check.Goals as goal

pub returns-in_err-check_header : goal.returns-in_err-check_header
unfolding first_break
returns-in_err-check_header c =
    let p = err_from_is_err_and c.from_residual.result c.from_residual.ensures.1 in
    let file = c.args.file.now in
    rw (p.1, p.2) (sym (first_broken-append 1 (header_rules file) (table_rules file) _ (sym c.in_err-check_header.ensures.rules)))
