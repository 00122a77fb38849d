use Rattle.bpf_insn.proofs.Splits.{Front-cut, Decodes-whole, Decodes-bad, emptied, filled}
use Rattle.bpf_insn.proofs.decoding.pieces.Goals as goal

pub returns-in_default : goal.returns-in_default
returns-in_default c =
    Decodes-bad _ c.loop-rest.rest.now _ c.loop-rest.invariant c.len.result c.len.ensures (filled c.loop-rest.rest.now c.is_empty.result c.is_empty.ensures c.loop-rest-test.true) c.in_default.ensures.none

pub loop-rest-preserved : goal.loop-rest-preserved
loop-rest-preserved c =
    Front-cut _ c.loop-rest.rest.now _ _ _ _ c.in-Some.size c.loop-rest.invariant c.in-Some.ensures.found.1 c.split_at.ensures.front c.split_at.ensures.back c.in_ok-push_piece.ensures

pub returns : goal.returns
returns c =
    Decodes-whole _ c.loop-rest.rest.now _ c.loop-rest.invariant (emptied c.loop-rest.rest.now c.is_empty.result c.is_empty.ensures c.loop-rest-test.false)
