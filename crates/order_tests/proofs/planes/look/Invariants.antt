use Rattle.dispatch_plane.specs.Sight.{Joins}
use Rattle.order_tests.proofs.planes.look.Given as goal

abbrev pub invariant-enters : goal.invariant-enters
invariant-enters l = Joins l.fn.port.plane l.port
