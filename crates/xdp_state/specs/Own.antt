use Rattle.xdp_state.specs.Book.{Book}
use Rattle.xdp_state.specs.Carrier.{Carrier}
use Rattle.xdp_state.specs.Members.{chain_on}
use Rattle.xdp_state.specs.Stores.{AreReady}
use Rattle.xdp_state.specs.declared.library.Library.{Library}

-- each program of the interface has its own maps
abbrev pub IsPrepared : Library → Carrier → Book → Type 0
IsPrepared library own book = AreReady library own.standing.stores (chain_on book.members own.standing.interface)
