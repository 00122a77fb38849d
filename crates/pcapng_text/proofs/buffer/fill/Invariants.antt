use Rattle.std.proofs.Common.{◌≡◌, ◌-◌, ◌≤◌, length}
use Rattle.pcapng_text.proofs.Filling.{Filled}
use Rattle.pcapng_text.proofs.buffer.fill.Given as goal

abbrev pub invariant-loop-source : goal.invariant-loop-source
invariant-loop-source g l = record {
  within : length l.bytes.items ≤ l.size;
  filled : Filled g.S.Source.tells l.fn.bytes.items l.bytes.items (g.S.Source.rest l.fn.source) (g.S.Source.rest l.source);
  same_faults : g.S.Source.faults l.source ≡ g.S.Source.faults l.fn.source;
  same_setting : g.S.Source.setting l.source ≡ g.S.Source.setting l.fn.source;
}

abbrev pub decreases-loop-source : goal.decreases-loop-source
decreases-loop-source g l = l.size - length l.bytes.items
