-- How a run ends that performed its script.
use Rattle.std.specs.Prelude.{Bool, Result, Ok, Err}
use Rattle.xdp_tool.specs.declared.ending.Ending.{Ending}
use Rattle.xdp_tool.specs.declared.ending.Ending.TheVariants as ending
use Rattle.xdp_tool.specs.declared.perform.Stop.{Stop}
use Rattle.xdp_tool.specs.declared.perform.Stop.TheVariants.{Fault, OutOfMemory, Differs}

abbrev pub ending_of : Result Bool Stop → Ending
ending_of (Ok refused) = ending.Done refused
ending_of (Err Fault) = ending.Fault
ending_of (Err OutOfMemory) = ending.OutOfMemory
ending_of (Err (Differs line)) = ending.TraceDiffers line
