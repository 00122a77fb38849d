-- What is known of a script that was read, with its objects, and of a trace.
use Rattle.std.specs.Prelude.{◌≡◌, ◌^◌, ◌<◌, ◌≤◌, true, length, IfSome}
use Rattle.std.specs.List.{list_all}
use Rattle.script_text.specs.Handed.{has_frame, has_flags}
use Rattle.xdp_state.specs.Library.{IsSound}
use Rattle.xdp_tool.specs.declared.performance.Performance.{Performance}
use Rattle.xdp_tool.specs.declared.prepared.Prepared.{Prepared}

pub record IsRunnable (script : Prepared) : Type 0 where
  pub frames : list_all has_frame script.lines ≡ true
  pub flags : list_all has_flags script.lines ≡ true
  pub lines : length script.lines ≤ 65536
  pub interfaces : length script.library.interfaces ≤ 8
  pub sound : IsSound script.library

-- the trace's lines have numbers
pub record IsPerformable (performed : Performance) : Type 0 where
  pub script : IsRunnable performed.script
  pub trace : IfSome performed.trace (λ trace. length trace.text < 2 ^ 31)
