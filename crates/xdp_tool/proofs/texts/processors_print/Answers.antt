use Rattle.std.proofs.Common.{◌≡◌, ◌<◌, length, map, Some, sym, ap, ◌∙◌, arith}
use Rattle.std.specs.Prelude.{slice_get}
use Rattle.std.proofs.lemmas.List.{length-map}
use Rattle.xdp_state.specs.Sums.{tally_of}
use Rattle.xio.proofs.PrintLemmas.{printed_all, printed_more, printed_none, printed_stop}
use Rattle.xdp_tool.proofs.Lines.{processors-front, processors-none}
use Rattle.xdp_tool.proofs.texts.processors_print.Goals as goal
use Rattle.xdp_tool.proofs.texts.processors_print.Goals.{then-place-processors+in_ok-processor_print, else-place-processors}

pub loop-place-init : goal.loop-place-init
loop-place-init g c = λ packets is same. printed_none _ _ _ _

pub loop-place-preserved : goal.loop-place-preserved
loop-place-preserved g c = λ packets is same.
    let place = c.loop-place.place in
    let under : place < length packets = omega (arith, c.loop-place-test.true, same, c.len-place-end.ensures) in
    elim c.if-place-processors.branch [
      | then-place-processors+in_ok-processor_print w ↦
          let at : slice_get (map tally_of packets) place ≡ Some w.of-tally.result.now = ap (λ ts. slice_get ts place) (sym is) ∙ w.of-tally.ensures in
          rw w.printer-is (printed_more _ _ (c.loop-place.invariant packets is same)
          (processors-front c.args.queues.now packets place c.at-queue.result.now w.of-tally.result.now c.at-queue.ensures under at)
          w.in_ok-processor_print.ensures)
      | else-place-processors w ↦ absurd (omega (arith, w.if-place-processors.false, c.processors.ensures, under, ap length is, length-map packets tally_of))
    ]

pub returns-in_err-processor_print : goal.returns-in_err-processor_print
returns-in_err-processor_print g c = λ packets is same.
    let place = c.loop-place.place in
    let under : place < length packets = omega (arith, c.loop-place-test.true, same, c.len-place-end.ensures) in
    let at : slice_get (map tally_of packets) place ≡ Some c.of-tally.result.now = ap (λ ts. slice_get ts place) (sym is) ∙ c.of-tally.ensures in
    printed_stop _ _ c.from_residual.result c.from_residual.ensures.0 (c.loop-place.invariant packets is same)
    (processors-front c.args.queues.now packets place c.at-queue.result.now c.of-tally.result.now c.at-queue.ensures under at)
    c.in_err-processor_print.ensures

pub returns : goal.returns
returns g c = λ packets is same.
    printed_all (c.loop-place.invariant packets is same)
    (processors-none c.args.queues.now packets c.loop-place.place (omega (arith, c.loop-place-test.false, c.len-place-end.ensures)))
