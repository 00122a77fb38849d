use Rattle.std.proofs.Common.{◌≡◌, [], length, map, refl, sym, ap, ◌∙◌}
use Rattle.std.proofs.lemmas.List.{length-map, length-replicate}
use Rattle.xdp_tool.specs.declared.prepared.Prepared.{Prepared}
use Rattle.xdp_state.specs.Sums.{no_past, sums_of}
use Rattle.xdp_tool.specs.QueueView.{queue_of}
use Rattle.xdp_tool.specs.Queues.{queues_of}
use Rattle.xdp_tool.proofs.Due.{length-standing}
use Rattle.xdp_tool.proofs.run.Run.new.Goals as goal

pub returns-clause-start : goal.returns-clause-start
returns-clause-start c =
    let queues = queues_of c.args.performed.now.script.library.interfaces in
    let all : map queue_of c.in_ok-queues.queues ≡ queues = c.in_ok-queues.ensures.queues in
    let many : length c.in_ok-queues.queues ≡ length queues = sym (length-map c.in_ok-queues.queues queue_of) ∙ ap length all in
    let n : c.len.result ≡ length queues = c.len.ensures ∙ many in
    let m : c.len-2.result ≡ length queues = c.len-2.ensures ∙ many in
    record {
      walks = record {
        at = rw (← n) c.in_ok-new.ensures.start;
        state = c.in_ok-new-2.ensures;
        carrier = rw (c.as_slice.ensures, all) at c.in_ok-new-3.ensures;
        standing = rw c.in_ok-new.ensures.same (length-standing 0 queues);
        library = ap (λ (s : Prepared). s.library) (sym c.in_ok-new.ensures.same);
        waiting = c.in_ok-new-6.ensures;
      };
      rests = record {
        earlier = no_past (length queues);
        carried = [];
        shows = record {
          rules = c.in_ok-new-4.ensures;
          sums = c.in_ok-new-5.ensures ∙ ap (λ k. sums_of (no_past k) []) m;
          queues = all;
          processors = length-replicate (length queues) _;
        };
        counted = refl;
      };
    }
