-- When a text is the trace of a run of a script.
use Rattle.std.specs.Prelude.{◌≡◌, ℕ, ◌^◌, ◌<◌, true, List, length}
use Rattle.script_text.specs.TraceRead.{AreTraceableIn}
use Rattle.xdp_state.specs.Legal.{AreLegal}
use Rattle.xdp_state.specs.Work.{plan_of}
use Rattle.xdp_tool.specs.Plan.{plan, works_of}
use Rattle.xdp_tool.specs.Traversed.{trace_for, traversed}
use Rattle.xdp_tool.specs.declared.prepared.Prepared.{Prepared}

-- the whole script was run with these counts, which are legal
pub record IsTraceOf (script : Prepared) (choices : List (List (List ℕ))) (text : List ℕ) : Type 0 where
  pub legal : AreLegal (plan_of (works_of (plan script))) choices
  pub whole : length choices ≡ length (plan script)
  pub text_is : text ≡ trace_for true script.library (plan script) choices

-- numbers below 2^32, at most eight processors, and a byte at least in each frame: what a line of a trace can say
pub record CanBeTraced (script : Prepared) (choices : List (List (List ℕ))) : Type 0 where
  pub phases : length choices < 2 ^ 32
  pub packets : AreTraceableIn (traversed script.library (plan script) choices)

-- no run of the script has this trace
abbrev pub IsNoTrace : Prepared → List ℕ → Type 0
IsNoTrace script text = (choices : List (List (List ℕ))) → CanBeTraced script choices → IsTraceOf script choices text → ⊥
