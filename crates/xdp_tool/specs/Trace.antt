-- What stands in the trace of a plan, by what was carried in each of its phases.
use Rattle.std.specs.Prelude.{ℕ, ◌+◌, Bool, List, [], ◌∷◌, ◌++◌, Option, Some, None, if◌then◌else◌}
use Rattle.script_text.specs.Trace.{first_line, heading, last_line, processors_trace}
use Rattle.xdp_state.specs.declared.carried.Carried.{Carried}
use Rattle.xdp_tool.specs.Plan.{Phase}

-- only the script's end is marked
abbrev pub end_mark : Option ℕ → List ℕ
end_mark (Some line) = []
end_mark None = last_line

abbrev pub phase_trace : ℕ → Option ℕ → List (List Carried) → List ℕ
phase_trace number barrier carried = heading number ++ (processors_trace 0 carried ++ end_mark barrier)

-- the phases that something was carried in, from the one of this number on
abbrev pub traces_from : ℕ → List Phase → List (List (List Carried)) → List ℕ
traces_from number (phase ∷ phases) (carried ∷ more) =
    phase_trace number phase.barrier carried ++ traces_from (number + 1) phases more
traces_from number _ _ = []

abbrev pub trace_text : List Phase → List (List (List Carried)) → List ℕ
trace_text phases carried = first_line ++ traces_from 0 phases carried

-- the trace where one is wanted
abbrev pub trace_if : Bool → List Phase → List (List (List Carried)) → List ℕ
trace_if traced phases carried = if traced then trace_text phases carried else []

abbrev pub traces_if : Bool → List Phase → List (List (List Carried)) → List ℕ
traces_if traced phases carried = if traced then traces_from 0 phases carried else []

abbrev pub traced_text : Bool → ℕ → Option ℕ → List (List Carried) → List ℕ
traced_text traced number barrier carried = if traced then phase_trace number barrier carried else []
