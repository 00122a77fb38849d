use Rattle.std.proofs.Common.{◌≡◌, ◌-◌, ◌≤◌, IsTrue}
use Rattle.pcapng_text.specs.Reading.{reading, TakesUpTo}
use Rattle.pcapng_text.proofs.blocks.next_packet.Given as goal

-- the blocks so far brought no packet, so what is left decides
abbrev pub invariant-loop-packet : goal.invariant-loop-packet
invariant-loop-packet g l = record {
  within : l.progress.place ≤ l.limit;
  later : l.fn.progress.place ≤ l.progress.place;
  same : IsTrue g.S.Source.tells → reading l.limit l.fn.progress (g.S.Source.rest l.fn.source) ≡ reading l.limit l.progress (g.S.Source.rest l.source);
  taken : IsTrue g.S.Source.tells → TakesUpTo l.fn.progress.place l.progress.place (g.S.Source.rest l.fn.source) (g.S.Source.rest l.source);
  same_faults : g.S.Source.faults l.source ≡ g.S.Source.faults l.fn.source;
  same_setting : g.S.Source.setting l.source ≡ g.S.Source.setting l.fn.source;
}

abbrev pub decreases-loop-packet : goal.decreases-loop-packet
decreases-loop-packet g l = l.limit - l.progress.place
