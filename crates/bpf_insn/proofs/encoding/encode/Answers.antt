use Rattle.bpf_insn.proofs.Registers.{code_registers}
use Rattle.bpf_insn.proofs.Written.{Decodes-taken}
use Rattle.bpf_insn.proofs.encoding.encode.Goals as goal

pub slot_of-requires : goal.slot_of-requires
slot_of-requires c = code_registers c.args.insns.now c.requires c.loop-insn.insn-index _ c.loop-insn-test.true

pub returns-clause-round_trip : goal.returns-clause-round_trip
returns-clause-round_trip c =
    Decodes-taken c.loop-insn.bytes c.args.insns.now c.loop-insn.insn-index c.loop-insn-test.false c.requires c.loop-insn.invariant.written c.loop-insn.invariant.ranges
