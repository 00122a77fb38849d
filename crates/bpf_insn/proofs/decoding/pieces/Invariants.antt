use Rattle.std.proofs.Common.{length}
use Rattle.bpf_insn.proofs.Splits.{Front}
use Rattle.bpf_insn.proofs.decoding.pieces.Given as goal

abbrev pub invariant-loop-rest : goal.invariant-loop-rest
invariant-loop-rest l = Front l.bytes l.rest l.insns

abbrev pub decreases-loop-rest : goal.decreases-loop-rest
decreases-loop-rest l = length l.rest
