use Rattle.std.proofs.Common.{◌≡◌, ◌≤◌, ◌-◌, length}
use Rattle.std.specs.Prelude.{replicate}
use Rattle.dispatch_plane.specs.Sight.{fresh}
use Rattle.dispatch_plane.proofs.plane.ports_of.Given as goal

abbrev pub invariant-seats : goal.invariant-seats
invariant-seats l = record {
  fresh : l.ports ≡ replicate (length l.ports) (fresh l.fn.publisher.plane);
  few : length l.ports ≤ l.readers;
  same : l.publisher ≡ l.fn.publisher;
}

abbrev pub decreases-seats : goal.decreases-seats
decreases-seats l = l.readers - length l.ports
