-- What a status command shows.
use Rattle.std.specs.Prelude.{Some, None}
use Rattle.xdp_state.specs.Interfaces.{interface_named}
use Rattle.xdp_state.specs.declared.command.Command.{Command}
use Rattle.xdp_state.specs.declared.command.Command.TheVariants.{LoaderStatus}
use Rattle.xdp_state.specs.declared.library.Library.{Library}
use Rattle.xdp_tool.specs.declared.table.Table.{Table}
use Rattle.xdp_tool.specs.declared.table.Table.TheVariants.{Rules, Chain, Chains}

-- the members of one interface or of all, or the rules; only the status commands are shown
unfoldable pub table_of : Library → Command → Table
table_of library (LoaderStatus None) = Chains
table_of library (LoaderStatus (Some name)) = Chain (interface_named library.interfaces name)
table_of library _ = Rules
