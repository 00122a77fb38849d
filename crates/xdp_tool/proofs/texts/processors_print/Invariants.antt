use Rattle.std.proofs.Common.{◌≡◌, List, drop, length, map}
use Rattle.xdp_state.specs.Sums.{Counted, tally_of}
use Rattle.xdp_tool.specs.QueueView.{queue_of}
use Rattle.xdp_tool.specs.Texts.{processors_text}
use Rattle.xio.proofs.PrintLemmas.{HasPrinted}
use Rattle.xdp_tool.proofs.texts.processors_print.Given as goal

-- the processors that are left
abbrev pub invariant-loop-place : goal.invariant-loop-place
invariant-loop-place g l =
    (packets : List (List Counted)) → l.sums.by_processor ≡ map tally_of packets → length packets ≡ length l.queues
    → HasPrinted g.P.Printer.tells g.P.Printer.counts (g.P.Printer.state l.fn.printer) (g.P.Printer.state l.printer)
    (processors_text 0 (map queue_of l.queues) packets) (processors_text l.place (map queue_of (drop l.place l.queues)) (drop l.place packets))
