use Rattle.bpf_insn.proofs.Immediates.{any_imm}
use Rattle.bpf_insn.proofs.laws.any_immediate.Goals as goal

pub returns : goal.returns
returns c = any_imm
