use Rattle.std.proofs.Common.{arith}
use Rattle.bpf_insn.proofs.Decoded.{bytes_decoded, code_decoded, registers_decoded}
use Rattle.bpf_insn.proofs.Splits.{Gives-decoded}
use Rattle.bpf_insn.proofs.decoding.decode.Goals as goal

pub returns-clause-bytes : goal.returns-clause-bytes
returns-clause-bytes c = bytes_decoded c.args.bytes.now c.pieces.result (λ i. omega (arith, c.type_inv.bytes i)) c.pieces.ensures

pub returns-clause-code : goal.returns-clause-code
returns-clause-code c = code_decoded c.args.bytes.now c.pieces.result c.pieces.ensures

pub returns-clause-registers : goal.returns-clause-registers
returns-clause-registers c = registers_decoded c.pieces.result (code_decoded c.args.bytes.now c.pieces.result c.pieces.ensures)

pub returns-clause-only : goal.returns-clause-only
returns-clause-only c = Gives-decoded c.args.bytes.now c.pieces.result c.pieces.ensures
