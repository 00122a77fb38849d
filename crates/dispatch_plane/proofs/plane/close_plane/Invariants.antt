use Rattle.std.proofs.Common.{length}
use Rattle.std.specs.List.{All}
use Rattle.dispatch_plane.specs.Sight.{Joins, Ends}
use Rattle.dispatch_plane.proofs.plane.close_plane.Given as goal

-- what holds of the ports that are left holds of all
abbrev pub invariant-ports : goal.invariant-ports
invariant-ports g l = record {
  joins : All (Joins l.publisher.plane) l.rest;
  ends : All (Ends l.publisher.changes) l.rest → All (Ends l.publisher.changes) l.fn.ports;
}

abbrev pub decreases-ports : goal.decreases-ports
decreases-ports g l = length l.rest
