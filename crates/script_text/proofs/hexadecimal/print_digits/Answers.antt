use Rattle.std.proofs.Common.{arith}
use Rattle.std.proofs.lemmas.Bool.Decides.{nat_tests}
use Rattle.hex.specs.Hex.{encode_lower}
use Rattle.xio.proofs.PrintLemmas.{printed_none, printed_more, printed_stop, printed_all}
use Rattle.script_text.proofs.PieceLemmas.{encode_lower-split, encode_lower-none}
use Rattle.script_text.proofs.hexadecimal.print_digits.Goals as goal

pub loop-rest-init : goal.loop-rest-init
loop-rest-init g c = printed_none _ _ _ _

pub loop-rest-preserved : goal.loop-rest-preserved
loop-rest-preserved g c =
    printed_more _ _ c.loop-rest.invariant (rw (c.split_at.ensures.front, c.split_at.ensures.back) (encode_lower-split _ _)) c.in_ok-print_chunk.ensures

pub returns-in_err-print_chunk : goal.returns-in_err-print_chunk
returns-in_err-print_chunk g c =
    printed_stop (encode_lower c.split_at.result.0.now) (encode_lower c.split_at.result.1.now) c.from_residual.result c.from_residual.ensures.0 c.loop-rest.invariant
    (rw (c.split_at.ensures.front, c.split_at.ensures.back) (encode_lower-split _ _)) c.in_err-print_chunk.ensures

pub returns : goal.returns
returns g c = printed_all c.loop-rest.invariant (encode_lower-none c.loop-rest.rest.now (grind (arith, nat_tests)))
