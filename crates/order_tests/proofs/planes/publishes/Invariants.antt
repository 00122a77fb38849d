use Rattle.std.proofs.Common.{◌≡◌}
use Rattle.order_tests.proofs.planes.publishes.Given as goal

abbrev pub invariant-changes : goal.invariant-changes
invariant-changes g l = l.publisher.plane ≡ l.fn.publisher.plane
