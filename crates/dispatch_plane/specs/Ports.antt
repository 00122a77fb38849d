-- What a lent list of ports becomes.
use Rattle.std.specs.Prelude.{List, ◌++◌, length, take, drop}
use Rattle.std.specs.Borrow.{Lends, MutBor, Fml, Array}
use Rattle.dispatch_plane.specs.Sight.{Sight}
use Rattle.dispatch_plane.specs.contracts.ports.PortList.{the_row}
use Rattle.dispatch_plane.specs.contracts.port.Port as port

-- the written ports stand at their places; a slice keeps its length
abbrev pub LendsPorts : MutBor (List Sight) → MutBor (List Sight) → Fml
LendsPorts list ports = Lends the_row (Array port.the_row 0) list ports (λ written. take (length list.now) (written ++ drop (length written) list.now))
