use Rattle.std.proofs.Common.{◌≡◌, ◌++◌, ◌-◌, drop, length}
use Rattle.xdp_state.specs.Work.{needs_of}
use Rattle.xdp_tool.specs.Replay.{legal_front}
use Rattle.xdp_tool.proofs.fronts.front_of.Given as goal

-- the counts so far, and those of the packets that are left
abbrev pub invariant-loop-place : goal.invariant-loop-place
invariant-loop-place l =
    l.front ++ legal_front l.last l.published (needs_of (drop l.place l.hand_ins)) (drop l.place l.counts)
    ≡ legal_front l.before l.published (needs_of l.hand_ins) l.counts

abbrev pub decreases-loop-place : goal.decreases-loop-place
decreases-loop-place l = length l.hand_ins - l.place
