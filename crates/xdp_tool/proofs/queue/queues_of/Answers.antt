use Rattle.std.proofs.Common.{◌++◌, sym, ap, ◌∙◌}
use Rattle.std.proofs.lemmas.Option.{get_or_from_slice_get, slice_get_within}
use Rattle.xdp_tool.specs.Queues.{queues_on}
use Rattle.xdp_tool.proofs.QueueLists.{queues_from-more}
use Rattle.xdp_tool.proofs.queue.queues_of.Goals as goal

pub loop-number-preserved : goal.loop-number-preserved
loop-number-preserved c =
    let interfaces = c.args.interfaces.now in
    let n = c.loop-number.number in
    let here = c.at.ensures in
    record {
      queues = rw (queues_from-more interfaces n c.at.result.now (slice_get_within interfaces n _ here) (sym (get_or_from_slice_get interfaces n _ c.at.result.now here)))
          (c.in_ok-add_queues.ensures.queues ∙ ap (λ qs. qs ++ queues_on n c.at.result.now) c.loop-number.invariant.queues);
      interfaces = c.in_ok-add_queues.ensures.interfaces c.loop-number.invariant.interfaces;
    }
