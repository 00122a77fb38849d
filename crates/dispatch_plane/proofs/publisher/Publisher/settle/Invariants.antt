use Rattle.std.proofs.Common.{◌≡◌}
use mathlib.Core.List.{IsPrefix}
use Rattle.dispatch_plane.specs.Sight.{Joins}
use Rattle.dispatch_plane.proofs.publisher.Publisher.settle.Given as goal

abbrev pub invariant-looks : goal.invariant-looks
invariant-looks g l = record {
  joins : Joins l.self.plane l.looking;
  seen : IsPrefix l.fn.port.seen l.looking.seen;
  told : l.looking.told ≡ l.fn.port.told;
}
