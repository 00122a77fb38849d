-- What the processors of a plan carry with these counts, and the texts of it.
use Rattle.std.specs.Prelude.{ℕ, ◌+◌, Bool, List, [], ◌∷◌}
use Rattle.xdp_state.specs.Standing.{Standing}
use Rattle.xdp_state.specs.Traversals.{traversals}
use Rattle.xdp_state.specs.declared.carried.Carried.{Carried}
use Rattle.xdp_state.specs.declared.library.Library.{Library}
use Rattle.xdp_tool.specs.Plan.{Phase, works_of}
use Rattle.xdp_tool.specs.Queues.{Queue, queues_of}
use Rattle.xdp_tool.specs.Texts.{out_text}
use Rattle.xdp_tool.specs.Trace.{trace_if, traces_if}

-- before the first packet of the processor of this number
abbrev pub standing_of : ℕ → Queue → Standing
standing_of processor queue = record { processor = processor; interface = queue.interface; queue = queue.queue; stores = [] }

abbrev pub standings_from : ℕ → List Queue → List Standing
standings_from processor [] = []
standings_from processor (queue ∷ queues) = standing_of processor queue ∷ standings_from (processor + 1) queues

abbrev pub standings_of : List Queue → List Standing
standings_of queues = standings_from 0 queues

abbrev pub traversed : Library → List Phase → List (List (List ℕ)) → List (List (List Carried))
traversed library phases choices = traversals library (standings_of (queues_of library.interfaces)) (works_of phases) choices

-- out, and the trace where one is wanted, with and without its first line
abbrev pub out_for : Library → List Phase → List (List (List ℕ)) → List ℕ
out_for library phases choices = out_text library phases (traversed library phases choices)

abbrev pub trace_for : Bool → Library → List Phase → List (List (List ℕ)) → List ℕ
trace_for traced library phases choices = trace_if traced phases (traversed library phases choices)

abbrev pub traces_for : Bool → Library → List Phase → List (List (List ℕ)) → List ℕ
traces_for traced library phases choices = traces_if traced phases (traversed library phases choices)
