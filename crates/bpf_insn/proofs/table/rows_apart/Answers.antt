use Rattle.bpf_insn.proofs.Apart.{apart_answer}
use Rattle.bpf_insn.proofs.table.rows_apart.Goals as goal

pub returns : goal.returns
returns g c = apart_answer c.args.table.now.rows c.ascends.result c.ascends.ensures
