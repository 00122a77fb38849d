use Rattle.std.proofs.Common.{rules, ◌∙◌, arith}
use Rattle.pcapng_text.specs.Reading.{Whole, reading}
use Rattle.pcapng_text.proofs.Next.{read_end, same-fault}
use Rattle.pcapng_text.proofs.Walk.{reading-gives, reading-skips, reading-stops, stops_before, takes_more}
use Rattle.pcapng_text.proofs.blocks.next_packet.Goals as goal

pub loop-packet-preserved : goal.loop-packet-preserved
loop-packet-preserved g c =
    let step = rw c.in-Ok-Skipped.field-0-is at c.in-Ok-Skipped.ensures.step in
    let further = rw c.in-Ok-Skipped.field-0-is at c.in-Ok-Skipped.ensures.further in
    record {
      within = c.in-Ok-Skipped.ensures.within;
      later = omega (arith, further);
      same = λ told. c.loop-packet.invariant.same told ∙ reading-skips c.args.limit c.loop-packet.progress _ _ _ (c.in-Ok-Skipped.ensures.taken told) (step told);
      taken = λ told. takes_more (c.loop-packet.invariant.taken told) (c.in-Ok-Skipped.ensures.taken told);
      same_faults = search rules;
      same_setting = search rules;
    }

pub returns-in-Ok-End-clause-packet : goal.returns-in-Ok-End-clause-packet
returns-in-Ok-End-clause-packet g c told =
    let step = rw c.in-Ok-End.field-0-is at c.in-Ok-End.ensures.step in
    c.loop-packet.invariant.same told ∙ reading-stops c.args.limit c.loop-packet.progress _ Whole (step told)

pub returns-in-Ok-Packet-clause-packet : goal.returns-in-Ok-Packet-clause-packet
returns-in-Ok-Packet-clause-packet g c told =
    let step = rw c.in-Ok-Packet.field-0-is at c.in-Ok-Packet.ensures.step in
    c.loop-packet.invariant.same told ∙ reading-gives c.args.limit c.loop-packet.progress _ _ _ (c.in-Ok-Packet.ensures.taken told) _ (step told)

pub returns-in-Ok-Packet-clause-taken : goal.returns-in-Ok-Packet-clause-taken
returns-in-Ok-Packet-clause-taken g c told = takes_more (c.loop-packet.invariant.taken told) (c.in-Ok-Packet.ensures.taken told)

pub returns-in-Err-clause-packet : goal.returns-in-Err-clause-packet
returns-in-Err-clause-packet g c told =
    read_end c.args.limit c.loop-packet.progress c.next_block.new.progress _ (reading c.args.limit c.args.progress.now (g.S.Source.rest c.args.source.now))
    (reading c.args.limit c.next_block.new.progress (g.S.Source.rest c.next_block.new.source)) c.next_block.new.progress.place c.in-Err.end (c.loop-packet.invariant.same told) (c.in-Err.ensures.step told)

pub returns-in-Err-clause-fault : goal.returns-in-Err-clause-fault
returns-in-Err-clause-fault g c told fault =
    stops_before c.args.limit c.args.progress.now c.loop-packet.progress _ _ _ (c.loop-packet.invariant.same told) (c.loop-packet.invariant.taken told) (c.in-Err.ensures.fault told (same-fault c.in-Err.end fault))
