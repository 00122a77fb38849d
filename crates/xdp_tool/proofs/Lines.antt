-- The lines of the processors and of their packets, one after another.
use Rattle.std.proofs.Common.{◌≡◌, ℕ, ◌+◌, ◌<◌, ◌≤◌, zero, suc, List, [], ◌∷◌, ◌++◌, length, drop, drop-cons, map, get_or, Some, refl, sym, ap, ◌∙◌, arith}
use Rattle.std.specs.Prelude.{slice_get}
use Rattle.std.proofs.lemmas.List.{drop_all}
use Rattle.std.proofs.lemmas.Option.{get_or_from_slice_get, slice_get_within}
use Rattle.script_text.specs.Texts.{processor_line}
use Rattle.xdp_state.specs.Sums.{Counted, tally_of}
use Rattle.xdp_state.specs.declared.carried.Carried.{Carried}
use Rattle.xdp_state.specs.declared.tally.Tally.{Tally}
use Rattle.xdp_tool.specs.QueueView.{queue_of}
use Rattle.xdp_tool.specs.Texts.{processors_text}
use Rattle.script_text.specs.Trace.{packet_trace, packets_trace, processors_trace}
use Rattle.xdp_tool.specs.declared.queue.Queue.{Queue}

tally-at : (before : List (List Counted)) (place : ℕ) (tally : Tally) → tally ≡ get_or (map tally_of before) place tally → place < length before → (packets : List Counted) × (tally ≡ tally_of packets) × (drop place before ≡ packets ∷ drop (place + 1) before)
tally-at [] place tally is below = absurd (omega arith)
tally-at (b ∷ before) zero tally is below = (b, is, refl)
tally-at (b ∷ before) (suc place) tally is below =
    let rest = tally-at before place tally is (omega arith) in
    (rest.0, rest.1, further rest.0 rest.2)
  where
    further : (packets : List Counted) → drop place before ≡ packets ∷ drop (place + 1) before → drop place before ≡ packets ∷ drop (suc place + 1) (b ∷ before)
    further packets e = let more : suc place + 1 ≡ suc (place + 1) = omega arith in rw more e

pub drop-at : {A : Type 0} (xs : List A) (i : ℕ) (x : A) → slice_get xs i ≡ Some x → drop i xs ≡ x ∷ drop (i + 1) xs
drop-at xs i x is =
    let next : suc i ≡ i + 1 = omega arith in
    drop-cons xs i x (slice_get_within xs i x is) ∙ ap (λ n. get_or xs i x ∷ drop n xs) next
    ∙ ap (λ y. y ∷ drop (i + 1) xs) (get_or_from_slice_get xs i x x is)

-- the line of the processor at a place, in front of those behind it
pub processors-front : (queues : List Queue) (before : List (List Counted)) (place : ℕ) (queue : Queue) (tally : Tally) → slice_get queues place ≡ Some queue → place < length before → slice_get (map tally_of before) place ≡ Some tally → processors_text place (map queue_of (drop place queues)) (drop place before) ≡ processor_line place queue.name.now queue.queue tally ++ processors_text (place + 1) (map queue_of (drop (place + 1) queues)) (drop (place + 1) before)
processors-front queues before place queue tally here under at =
    let this = tally-at before place tally (sym (get_or_from_slice_get (map tally_of before) place tally tally at)) under in
    ap (λ qs. processors_text place (map queue_of qs) (drop place before)) (drop-at queues place queue here)
    ∙ ap (λ bs. processors_text place (map queue_of (queue ∷ drop (place + 1) queues)) bs) this.2
    ∙ ap (λ t. processor_line place queue.name.now queue.queue t ++ processors_text (place + 1) (map queue_of (drop (place + 1) queues)) (drop (place + 1) before)) (sym this.1)

-- behind the last processor
pub processors-none : (queues : List Queue) (before : List (List Counted)) (place : ℕ) → length queues ≤ place → processors_text place (map queue_of (drop place queues)) (drop place before) ≡ []
processors-none queues before place all = ap (λ qs. processors_text place (map queue_of qs) (drop place before)) (drop_all place queues all)

-- the same in a trace
pub packets-front : (processor : ℕ) (packets : List Carried) (place : ℕ) (packet : Carried) → slice_get packets place ≡ Some packet → packets_trace processor place (drop place packets) ≡ packet_trace processor place packet ++ packets_trace processor (place + 1) (drop (place + 1) packets)
packets-front processor packets place packet here = ap (packets_trace processor place) (drop-at packets place packet here)

pub packets-none : (processor : ℕ) (packets : List Carried) (place : ℕ) → length packets ≤ place → packets_trace processor place (drop place packets) ≡ []
packets-none processor packets place all = ap (packets_trace processor place) (drop_all place packets all)

pub traces-front : (carried : List (List Carried)) (place : ℕ) (packets : List Carried) → slice_get carried place ≡ Some packets → processors_trace place (drop place carried) ≡ packets_trace place 0 packets ++ processors_trace (place + 1) (drop (place + 1) carried)
traces-front carried place packets here = ap (processors_trace place) (drop-at carried place packets here)

pub traces-none : (carried : List (List Carried)) (place : ℕ) → length carried ≤ place → processors_trace place (drop place carried) ≡ []
traces-none carried place all = ap (processors_trace place) (drop_all place carried all)
