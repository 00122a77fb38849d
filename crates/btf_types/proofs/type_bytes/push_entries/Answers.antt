use Rattle.std.proofs.Common.{◌<◌, arith, ◌∙◌}
use Rattle.std.proofs.lemmas.List.{take_rest}
use Rattle.btf_types.specs.TypeBytes.{entry_count, kind_of, part_of}
use Rattle.btf_types.proofs.Entries.{entries_fit, others_fit, others_follow}
use Rattle.btf_types.proofs.type_bytes.push_entries.Goals as goal

pub loop-init : goal.loop-init
loop-init c =
    let fits = rw c.requires.width at (entries_fit c.args.head.now c.requires.whole) in
    record {
      there = rw take_rest (grind (arith, fits));
      parts = rw (take_rest, c.requires.width) (grind arith);
    }

pub loop-preserved : goal.loop-preserved
loop-preserved c =
    let head = c.args.head.now in
    let more : c.loop.counter < entry_count head = rw (← c.entry_count-end.ensures.value) c.loop-test.true in
    record {
      there = rw take_rest (others_fit (entry_count head) c.loop.counter 12 c.loop.rest.now more c.loop.invariant.there);
      parts = rw (take_rest, c.in_ok-push.ensures.ok, c.part_of.ensures, c.kind_of-kind.ensures) (others_follow (part_of (kind_of head)) c.loop.parts (entry_count head) c.loop.counter 12 c.loop.rest.now more ∙ c.loop.invariant.parts);
    }
