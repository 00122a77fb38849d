use Rattle.bpf_insn.proofs.Rows.{every_form, form_found, rows_apart}
use Rattle.bpf_insn.proofs.table.form_at.Goals as goal

pub look_up-requires : goal.look_up-requires
look_up-requires c = rows_apart

pub returns-clause-found : goal.returns-clause-found
returns-clause-found c = form_found _ c.args.opcode c.look_up.ensures.found

pub returns-clause-every : goal.returns-clause-every
returns-clause-every c = λ o same. c.look_up.ensures.every _ (every_form o) same
