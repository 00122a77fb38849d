use Rattle.std.proofs.lemmas.List.{take_rest}
use Rattle.bpf_insn.proofs.Splits.{wide_pushed}
use Rattle.bpf_insn.proofs.decoding.push_piece.Goals as goal

pub returns-in_ok-push-2 : goal.returns-in_ok-push-2
returns-in_ok-push-2 c =
    wide_pushed c.args.insns.now _ _ c.args.piece.now _ _ c.slot_at-half.result c.if-piece-gt8.true (take_rest c.args.piece.now 8) c.slot_at.ensures.fields c.slot_at-half.ensures.fields c.in_ok-push.ensures.ok c.in_ok-push-2.ensures.ok
