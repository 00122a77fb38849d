use Rattle.dispatch_plane.specs.Sight.{Joins}
use Rattle.order_tests.proofs.planes.looks.Given as goal

abbrev pub invariant-looks : goal.invariant-looks
invariant-looks l = Joins l.fn.port.plane l.looking
