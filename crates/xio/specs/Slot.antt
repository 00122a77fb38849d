-- How the numbers stand that were given, from 0 on.
use Rattle.std.specs.Prelude.{ℕ, List, slice_get}
use Rattle.std.specs.Option.{option_map_or}
use Rattle.xio.specs.Handles.{Handle}
use Rattle.xio.specs.Handles as handle
use Rattle.xio.specs.declared.real.slot.Slot.{Slot}
use Rattle.xio.specs.declared.real.slot.Slot.TheVariants.{Closed, Opened, Made}

abbrev pub handle_in : {F : Type 0} → Slot F → Handle
handle_in Closed = handle.Closed
handle_in (Opened _) = handle.Opened
handle_in (Made _) = handle.Made

abbrev pub slot_handle : {F : Type 0} → List (Slot F) → ℕ → Handle
slot_handle slots n = option_map_or handle_in (slice_get slots n) handle.Closed
