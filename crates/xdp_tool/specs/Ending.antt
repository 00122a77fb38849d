-- How a run ends: its status, the line that it names, and what it says on err.
use Rattle.std.specs.Prelude.{ℕ, List, [], ◌++◌, codes, if◌then◌else◌}
use Rattle.std.specs.Fmt.{decimal}
use Rattle.xdp_tool.specs.declared.ending.Ending.{Ending}
use Rattle.xdp_tool.specs.declared.ending.Ending.TheVariants.{Done, Usage, BadScript, Fault, OutOfMemory, Limit, TraceDiffers}
use Rattle.xdp_tool.specs.declared.ending.LimitName.{LimitName}
use Rattle.xdp_tool.specs.declared.ending.LimitName.TheVariants.{Script, Lines, Objects, Object, Trace}

abbrev pub status_of : Ending → ℕ
status_of (Done refused) = if refused then 1 else 0
status_of Usage = 2
status_of (BadScript line rule) = 2
status_of Fault = 3
status_of OutOfMemory = 4
status_of (Limit name) = 5
status_of (TraceDiffers line) = 6

-- a line of the script or of the replayed trace, from 1, or 0 for none
abbrev pub line_of : Ending → ℕ
line_of (BadScript line rule) = line
line_of (TraceDiffers line) = line
line_of _ = 0

abbrev pub limit_text : LimitName → List ℕ
limit_text Script = codes "xdptool: limit script 16777216\n"
limit_text Lines = codes "xdptool: limit lines 65536\n"
limit_text Objects = codes "xdptool: limit objects 16\n"
limit_text Object = codes "xdptool: limit object 16777216\n"
limit_text Trace = codes "xdptool: limit trace 201326592\n"

abbrev pub err_text : Ending → List ℕ
err_text (Done refused) = []
err_text Usage = codes "usage: xdptool [--capture FILE] [--trace FILE] [--replay FILE] [--demo SEED] [SCRIPT]\n"
err_text (BadScript line rule) =
    codes "xdptool: line " ++ (decimal line ++ (codes ": rule S" ++ (decimal rule ++ codes "\n")))
err_text Fault = codes "xdptool: fault\n"
err_text OutOfMemory = codes "xdptool: out of memory\n"
err_text (Limit name) = limit_text name
err_text (TraceDiffers line) = codes "xdptool: trace line " ++ (decimal line ++ codes " differs\n")
