use Rattle.std.proofs.Common.{◌≡◌, ◌≤◌, ◌-◌, ◌++◌, List, drop, length, IsTrue}
use Rattle.xdp_state.specs.Sums.{Past}
use Rattle.xdp_state.specs.Standing.{Standing}
use Rattle.xdp_tool.proofs.Running.{Ran}
use Rattle.xdp_tool.specs.Plan.{Phase, phases_from, plan}
use Rattle.xdp_tool.specs.Ran.{HasRoom, Stands}
use Rattle.xdp_tool.specs.Replaying.{IsReplaying}
use Rattle.xdp_tool.specs.Traversed.{out_for, traces_for}
use Rattle.xdp_tool.specs.Walked.{Begun}
use Rattle.xdp_tool.proofs.perform.work.Given as goal

abbrev pub invariant-phases : goal.invariant-phases
invariant-phases g l = record {
  done : List Phase;
  begun : Begun;
  past : Past;
  standings : List Standing;
  phase : Phase;
  ran : Ran l.performed.script.library done begun past standings l.choices;
  stands : Stands l.run begun past standings phase;
  plan_is : plan l.performed.script ≡ done ++ phases_from l.performed.script.library phase (drop l.run.walk.next l.performed.script.lines);
  same : l.run.walk.script.now ≡ l.performed.script;
  replays : IsReplaying l.performed.script.library l.performed.trace l.run.replay (plan l.performed.script)
      l.choices standings (phases_from l.performed.script.library phase (drop l.run.walk.next l.performed.script.lines));
  room : HasRoom l.run;
  out : IsTrue g.O.Sink.tells → g.O.Sink.held l.out ≡ g.O.Sink.held l.fn.out ++ out_for l.performed.script.library done l.choices;
  trace : IsTrue g.T.Sink.tells
      → g.T.Sink.held l.trace ≡ g.T.Sink.held l.fn.trace ++ traces_for l.traced l.performed.script.library done l.choices;
  out_later : g.O.Sink.faults l.fn.out ≤ g.O.Sink.faults l.out;
  trace_later : g.T.Sink.faults l.fn.trace ≤ g.T.Sink.faults l.trace;
  same_out : g.O.Sink.setting l.out ≡ g.O.Sink.setting l.fn.out;
  same_trace : g.T.Sink.setting l.trace ≡ g.T.Sink.setting l.fn.trace;
}

abbrev pub decreases-phases : goal.decreases-phases
decreases-phases g l = length l.performed.script.lines - l.run.walk.next
