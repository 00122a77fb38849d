use Rattle.std.proofs.Common.{◌≡◌, ◌≤◌, ◌+◌, ◌++◌, List, drop, length, take}
use Rattle.xdp_state.specs.Book.{AllTaken, after}
use Rattle.xdp_state.specs.Sums.{Past, tally_of}
use Rattle.xdp_state.specs.declared.change.Change.{Change}
use Rattle.xdp_tool.specs.Texts.{items_text}
use Rattle.xdp_tool.specs.Walked.{AreRising}
use Rattle.xio.proofs.PrintLemmas.{HasPrinted}
use Rattle.xdp_tool.proofs.texts.items_print.Given as goal

abbrev pub invariant-loop-item : goal.invariant-loop-item
invariant-loop-item g l = record {
  within : l.done ≤ length l.changes;
  state : (before : List Change) → l.fn.state ≡ after before → AllTaken (before ++ l.changes)
      → AreRising (length before) l.items (length (before ++ l.changes)) → record {
        now : l.state ≡ after (before ++ take l.done l.changes);
        rising : AreRising (length before + l.done) (drop l.item-index l.items) (length (before ++ l.changes));
      };
  text : (before : List Change) (past : Past) → l.fn.state ≡ after before → l.sums ≡ tally_of past.all → AllTaken (before ++ l.changes)
      → AreRising (length before) l.items (length (before ++ l.changes))
      → HasPrinted g.P.Printer.tells g.P.Printer.counts (g.P.Printer.state l.fn.printer) (g.P.Printer.state l.printer)
      (items_text l.library past (before ++ l.changes) l.items) (items_text l.library past (before ++ l.changes) (drop l.item-index l.items));
}
