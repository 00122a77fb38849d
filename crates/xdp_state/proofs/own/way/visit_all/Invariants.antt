use Rattle.std.proofs.Common.{◌≡◌, drop, length}
use Rattle.xdp_state.specs.Stores.{AreReady}
use Rattle.xdp_state.specs.Trails.{IsEven, visits_in}
use Rattle.xdp_state.specs.Traversal.{course_of, setting_of, way_from}
use Rattle.xdp_state.proofs.Ways.{with_front}
use Rattle.xdp_state.proofs.own.way.visit_all.Given as goal

abbrev pub invariant-loop-place : goal.invariant-loop-place
invariant-loop-place l =
    let setting = setting_of l.rules l.library l.dump l.env in
    record {
      way : way_from setting (course_of l.fn.machine.frame l.fn.machine.stores.items) l.chain
          ≡ with_front (visits_in l.trail) (way_from setting (course_of l.machine.frame l.machine.stores.items) (drop l.place l.chain));
      ready : AreReady l.library l.machine.stores.items l.chain;
      even : IsEven l.trail;
      place : length l.trail.seen.items ≡ l.place;
    }
