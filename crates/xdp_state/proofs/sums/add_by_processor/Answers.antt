use Rattle.std.proofs.Common.{◌<◌, ◌≤◌, length, map, take, slice_index_or, refl, ap, sym, ◌∙◌, add-one, arith}
use Rattle.std.proofs.lemmas.List.{length-map}
use Rattle.xdp_state.specs.Sums.{joined, tally_of}
use Rattle.xdp_state.proofs.Joined.{joined-past, joined-set, length-joined}
use Rattle.xdp_state.proofs.sums.add_by_processor.Goals as goal
use Rattle.xdp_state.proofs.sums.add_by_processor.Goals.{then-processor-len+in_ok-add_packets, else-processor-len}

pub loop-processor-init : goal.loop-processor-init
loop-processor-init c = record { sums = λ before is. is; processors = refl }

pub loop-processor-preserved : goal.loop-processor-preserved
loop-processor-preserved c =
    let inv = c.loop-processor.invariant in
    let k = c.loop-processor.processor in
    let carried = c.args.carried.now in
    let under : k < length carried = omega arith in
    elim c.if-processor-len.branch [
      | then-processor-len+in_ok-add_packets w ↦ record {
        sums = λ before is.
            let sums = inv.sums before is in
            let below : k < length before = omega (arith, w.if-processor-len.true, c.len.ensures, c.loop-processor.tallies.ok, ap length sums, length-map (joined before (take k carried)) tally_of, length-joined before (take k carried)) in
            rw (w.tallies-is, add-one, sums) (joined-set before carried k c.index-carried-processor.result w.index_mut.result.now w.add_packets.new.tally under below c.index-carried-processor.is
            (w.index_mut.ensures.value ∙ ap (λ ts. slice_index_or ts k w.index_mut.result.now) sums)
            (λ b there. rw w.as_slice.ensures at (w.in_ok-add_packets.ensures b there)));
        processors = rw w.tallies-is inv.processors;
      }
      | else-processor-len w ↦ record {
        sums = λ before is.
            let sums = inv.sums before is in
            let past : length before ≤ k = omega (arith, w.if-processor-len.false, c.len.ensures, c.loop-processor.tallies.ok, ap length sums, length-map (joined before (take k carried)) tally_of, length-joined before (take k carried)) in
            rw (w.tallies-is, add-one) (sums ∙ ap (map tally_of) (sym (joined-past before carried k past)));
        processors = rw w.tallies-is inv.processors;
      }
    ]
