use Rattle.std.proofs.Common.{sym, rules}
use Rattle.std.specs.Int.{w16, w32}
use Rattle.std.specs.Prelude.{FitsSigned}
use Rattle.bpf_insn.proofs.Slots.{slot_made, number_read}
use Rattle.bpf_insn.proofs.decoding.slot_at.Goals as goal

pub returns-clause-fields : goal.returns-clause-fields
returns-clause-fields c =
    let offset : FitsSigned w16 c.read_i16.result = search rules in
    let imm : FitsSigned w32 c.read_i32.result = search rules in
    sym (slot_made c.args.bytes.now _ _ (number_read w16 2 2 c.args.bytes.now _ offset c.read_i16.ensures) (number_read w32 4 4 c.args.bytes.now _ imm c.read_i32.ensures))
