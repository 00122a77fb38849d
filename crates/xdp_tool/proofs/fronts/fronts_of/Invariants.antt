use Rattle.std.proofs.Common.{◌≡◌, ◌++◌, true, drop, length, take}
use Rattle.xdp_state.specs.Work.{all_needs}
use Rattle.xdp_tool.specs.Replay.{are_whole, fronts_from}
use Rattle.xdp_tool.proofs.fronts.fronts_of.Given as goal

-- the counts so far, and those of the processors that are left
abbrev pub invariant-loop-place : goal.invariant-loop-place
invariant-loop-place l = record {
  counts : l.fronts.counts
      ++ fronts_from l.fronts.whole (drop l.place l.lasts) l.published (all_needs (drop l.place l.hand_ins)) (drop l.place l.counts)
      ≡ fronts_from true l.lasts l.published (all_needs l.hand_ins) l.counts;
  whole : l.fronts.whole ≡ are_whole (all_needs (take l.place l.hand_ins)) l.fronts.counts;
  many : length l.fronts.counts ≡ l.place;
}
