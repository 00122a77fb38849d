use Rattle.bpf_insn.proofs.Registers.{registers}
use Rattle.bpf_machine.proofs.step.carry_out.Goals as goal

pub execute-requires-clause-registers : goal.execute-requires-clause-registers
execute-requires-clause-registers c = registers c.args.insn.now c.requires.listed
