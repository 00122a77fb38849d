use Rattle.std.proofs.Common.{◌<◌, ◌^◌, ℕ, arith, length, refl, subst, sym}
use Rattle.std.proofs.lemmas.Bool.{and_from, lt-ltb}
use Rattle.pcapng_text.proofs.Framing.{framed-packet, length-packet_parts, printed_same, short-packet}
use Rattle.pcapng_text.proofs.writing.enhanced_packet_print.Goals as goal

pub overflow_cast-kept : goal.overflow_cast-kept
overflow_cast-kept g c = omega (arith, short-packet c.args.kept.now c.args.told c.requires)

pub block_print-requires-clause-short : goal.block_print-requires-clause-short
block_print-requires-clause-short g c =
    and_from _ _ (lt-ltb (length c.args.kept.now) (2 ^ 32) (short-packet c.args.kept.now c.args.told c.requires)) refl

pub block_print-requires-clause-size : goal.block_print-requires-clause-size
block_print-requires-clause-size g c =
    subst (λ (n : ℕ). n < 2 ^ 32)
    (sym (length-packet_parts c.args.number c.halves-upper.result.0 c.halves-upper.result.1 c.args.original c.args.kept.now c.args.told)) c.requires

pub returns-clause-prints : goal.returns-clause-prints
returns-clause-prints g c =
    printed_same c.block_print.ensures
    (framed-packet c.args.number c.args.timestamp c.halves-upper.result.0 c.halves-upper.result.1 c.args.original c.args.kept.now c.args.told
    c.halves-upper.ensures.upper c.halves-upper.ensures.lower)
