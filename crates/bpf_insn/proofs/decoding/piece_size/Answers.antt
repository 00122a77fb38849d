use Rattle.std.proofs.lemmas.List.{take_rest}
use Rattle.bpf_insn.proofs.Pieces.{wide_piece, slot_piece, unlisted, no_half}
use Rattle.bpf_insn.proofs.decoding.piece_size.Goals as goal

pub returns-then-not-is_listed-clause-none : goal.returns-then-not-is_listed-clause-none
returns-then-not-is_listed-clause-none c =
    unlisted c.args.bytes.now _ c.slot_at-first.ensures.fields (λ listed. let yes = c.is_listed.ensures.1 listed in cc)

pub returns-then-first-ne-WIDE_LOAD-clause-found : goal.returns-then-first-ne-WIDE_LOAD-clause-found
returns-then-first-ne-WIDE_LOAD-clause-found c =
    slot_piece c.args.bytes.now _ c.slot_at-first.ensures.fields c.if-bytes-lt8.false (c.is_listed.ensures.0 c.if-not-is_listed.false) c.if-first-ne-WIDE_LOAD.true

pub returns-then-begins_with_half-clause-found : goal.returns-then-begins_with_half-clause-found
returns-then-begins_with_half-clause-found c =
    wide_piece c.args.bytes.now _ _ c.slot_at-first.ensures.fields (take_rest c.args.bytes.now 8) (c.is_listed.ensures.0 c.if-not-is_listed.false) c.if-first-ne-WIDE_LOAD.false (c.begins_with_half.ensures.0 c.if-begins_with_half.true)

pub returns-else-begins_with_half-clause-none : goal.returns-else-begins_with_half-clause-none
returns-else-begins_with_half-clause-none c =
    no_half c.args.bytes.now _ _ c.slot_at-first.ensures.fields (take_rest c.args.bytes.now 8) c.if-first-ne-WIDE_LOAD.false (λ half. let yes = c.begins_with_half.ensures.1 half in cc)
