use Rattle.bpf_insn.proofs.Rows.{every_form, only_forms, rows_apart}
use Rattle.bpf_insn.proofs.table.instructions.Goals as goal

pub returns-clause-apart : goal.returns-clause-apart
returns-clause-apart c = rows_apart

pub returns-clause-every : goal.returns-clause-every
returns-clause-every c = every_form

pub returns-clause-only : goal.returns-clause-only
returns-clause-only c = only_forms
