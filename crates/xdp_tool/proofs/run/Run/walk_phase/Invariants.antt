use Rattle.std.proofs.Common.{◌≡◌, ◌≤◌, ◌-◌, List, drop, length}
use Rattle.xdp_state.specs.Sums.{Past}
use Rattle.xdp_state.specs.Standing.{Standing}
use Rattle.xdp_tool.specs.Plan.{Phase, phases_from}
use Rattle.xdp_tool.specs.Ran.{HasRoom, Stands}
use Rattle.xdp_tool.specs.Walked.{Begun}
use Rattle.xdp_tool.proofs.run.Run.walk_phase.Given as goal

abbrev pub invariant-turns : goal.invariant-turns
invariant-turns l = record {
  at : (begun : Begun) (past : Past) (standings : List Standing) (first : Phase) → Stands l.fn.self begun past standings first → record {
    phase : Phase;
    stands : Stands l.self begun past standings phase;
    phases : phases_from l.fn.self.walk.script.now.library first (drop l.fn.self.walk.next l.fn.self.walk.script.now.lines)
        ≡ phases_from l.fn.self.walk.script.now.library phase (drop l.self.walk.next l.fn.self.walk.script.now.lines);
  };
  room : HasRoom l.self;
  later : l.fn.self.walk.next ≤ l.self.walk.next;
  same : l.self.walk.script.now ≡ l.fn.self.walk.script.now;
  replay : l.self.replay ≡ l.fn.self.replay;
}

abbrev pub decreases-turns : goal.decreases-turns
decreases-turns l = length l.self.walk.script.now.lines - l.self.walk.next
