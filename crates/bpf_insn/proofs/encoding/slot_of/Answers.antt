use Rattle.std.proofs.Common.{rules}
use Rattle.std.specs.Prelude.{FitsSigned}
use Rattle.std.specs.Int.{w16, w32}
use Rattle.bpf_insn.proofs.Slots.{slot_written}
use Rattle.bpf_insn.proofs.encoding.slot_of.Goals as goal

pub returns-clause-bytes : goal.returns-clause-bytes
returns-clause-bytes c =
    let offset : FitsSigned w16 c.args.insn.now.offset = search rules in
    let imm : FitsSigned w32 c.args.insn.now.imm = search rules in
    slot_written c.args.insn.now _ _ offset imm c.to_le_bytes-offset.ensures c.to_le_bytes-imm.ensures
