-- The lines of the trace.
use Rattle.std.specs.Prelude.{ℕ, ◌+◌, List, [], ◌∷◌, ◌++◌, length, codes}
use Rattle.std.specs.Fmt.{decimal}
use Rattle.hex.specs.Hex.{encode_lower}
use Rattle.script_text.specs.Vocabulary.{action_name}
use Rattle.xdp_state.specs.declared.carried.Carried.{Carried}
use Rattle.xio.specs.declared.action.Action.{Action}

-- a packet of a processor, at its place from 0 in the phase: with how many publications it was carried, its verdict and target,
-- and its frame at the end, in lower-case digits
unfoldable pub trace_line : ℕ → ℕ → ℕ → Action → ℕ → List ℕ → List ℕ
trace_line processor place count verdict target frame =
    decimal processor ++ (codes " " ++ (decimal place ++ (codes " " ++ (decimal count ++ (codes " "
    ++ (action_name verdict ++ (codes " " ++ (decimal target ++ (codes " " ++ (decimal (length frame) ++ (codes " "
    ++ (encode_lower frame ++ codes "\n"))))))))))))

-- a packet of a processor, at its place from 0 in this phase
abbrev pub packet_trace : ℕ → ℕ → Carried → List ℕ
packet_trace processor place packet =
    trace_line processor place packet.count packet.traversal.verdict packet.traversal.target packet.traversal.frame

-- the packets of a processor, from the one at the place on
abbrev pub packets_trace : ℕ → ℕ → List Carried → List ℕ
packets_trace processor place [] = []
packets_trace processor place (packet ∷ packets) =
    packet_trace processor place packet ++ packets_trace processor (place + 1) packets

-- by processor, from the first one on
abbrev pub processors_trace : ℕ → List (List Carried) → List ℕ
processors_trace processor [] = []
processors_trace processor (packets ∷ more) =
    packets_trace processor 0 packets ++ processors_trace (processor + 1) more

abbrev pub heading : ℕ → List ℕ
heading number = codes "phase " ++ (decimal number ++ codes "\n")

abbrev pub first_line : List ℕ
first_line = codes "xdptrace 1\n"

abbrev pub last_line : List ℕ
last_line = codes "end\n"

-- phases, from the one of this number on
abbrev pub phases_trace : ℕ → List (List (List Carried)) → List ℕ
phases_trace number [] = []
phases_trace number (carried ∷ more) = heading number ++ (processors_trace 0 carried ++ phases_trace (number + 1) more)

-- a trace that is whole
abbrev pub whole_trace : List (List (List Carried)) → List ℕ
whole_trace phases = first_line ++ (phases_trace 0 phases ++ last_line)
