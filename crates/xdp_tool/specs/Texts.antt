-- What is printed of a plan, by what was carried in each of its phases.
use Rattle.std.specs.Prelude.{ℕ, ◌+◌, List, [], ◌∷◌, ◌++◌, length, take, flat_map, Option, Some, None}
use Rattle.script_text.specs.Chains.{chain_text, chains_text}
use Rattle.script_text.specs.Table.{rules_text}
use Rattle.script_text.specs.Texts.{outcome_text, end_text, processor_line}
use Rattle.script_text.specs.declared.outcome.Outcome.TheVariants as outcome
use Rattle.xdp_state.specs.Book.{Book, after}
use Rattle.xdp_state.specs.Sums.{Counted, Past, no_past, past_with, tally_of}
use Rattle.xdp_state.specs.declared.carried.Carried.{Carried}
use Rattle.xdp_state.specs.declared.change.Change.{Change}
use Rattle.xdp_state.specs.declared.library.Library.{Library}
use Rattle.xdp_tool.specs.Plan.{Phase}
use Rattle.xdp_tool.specs.Queues.{Queue, queues_of}
use Rattle.xdp_tool.specs.declared.item.Item.{Item}
use Rattle.xdp_tool.specs.declared.table.Table.{Table}
use Rattle.xdp_tool.specs.declared.table.Table.TheVariants.{Rules, Chain, Chains}

-- The table that a status command shows: the chains then, or the rules with the sums over the packets of the phases that have ended.
abbrev pub table_text : Library → Past → Book → Option Table → List ℕ
table_text library past book None = []
table_text library past book (Some Rules) = rules_text library.interfaces book (tally_of past.all)
table_text library past book (Some (Chain interface)) = chain_text library book interface
table_text library past book (Some Chains) = chains_text library book

abbrev pub item_text : Library → Past → List Change → Item → List ℕ
item_text library past published item =
    outcome_text item.line item.outcome ++ table_text library past (after (take item.count published)) item.table

abbrev pub items_text : Library → Past → List Change → List Item → List ℕ
items_text library past published items = flat_map (item_text library past published) items

-- what ends a phase: a barrier, or the script's end
abbrev pub closing_text : Option ℕ → ℕ → List ℕ
closing_text (Some line) count = outcome_text line (outcome.Barrier count)
closing_text None count = end_text count

-- a line for each processor, from the first one on
abbrev pub processors_text : ℕ → List Queue → List (List Counted) → List ℕ
processors_text processor (queue ∷ queues) (packets ∷ more) =
    processor_line processor queue.name queue.queue (tally_of packets) ++ processors_text (processor + 1) queues more
processors_text processor _ _ = []

-- what came of the lines of a phase, and the sums over all phases up to its end
abbrev pub phase_text : Library → Phase → Past → Past → List ℕ
phase_text library phase before now =
    items_text library before phase.work.published phase.items
    ++ (closing_text phase.barrier (length phase.work.published) ++ processors_text 0 (queues_of library.interfaces) now.by_processor)

-- the phases that something was carried in, after what was carried before
abbrev pub texts_from : Library → Past → List Phase → List (List (List Carried)) → List ℕ
texts_from library past (phase ∷ phases) (carried ∷ more) =
    phase_text library phase past (past_with past carried) ++ texts_from library (past_with past carried) phases more
texts_from library past _ _ = []

abbrev pub out_text : Library → List Phase → List (List (List Carried)) → List ℕ
out_text library phases carried = texts_from library (no_past (length (queues_of library.interfaces))) phases carried
