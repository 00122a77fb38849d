-- Lines compared with a text, one part of them after another.
use Rattle.std.proofs.Common.{◌≡◌, ℕ, ◌+◌, ◌<◌, ◌≤◌, ◌==◌, Bool, true, false, List, [], ◌∷◌, ◌++◌, length, drop, Some, append_assoc, refl, sym, ap, ◌∙◌, arith, inl, inr}
use Rattle.std.proofs.lemmas.Bool.{cases_Bool}
use Rattle.std.proofs.lemmas.List.{drop_all}
use Rattle.std.specs.List.{count_by, starts_with}
use Rattle.std.proofs.lemmas.List.Sums.{count_by-le-length}
use Rattle.std.specs.Prelude.{nat_eq, slice_get}
use Rattle.xdp_state.specs.declared.carried.Carried.{Carried}
use Rattle.xdp_tool.proofs.Lines.{drop-at}
use Rattle.script_text.specs.Trace.{packet_trace}
use Rattle.xdp_tool.specs.Replay.{Compared, compared, packets_lines, processors_lines}

pub compared-more : (first second : List (List ℕ)) (text rest : List ℕ) → compared first text ≡ record { rest = rest; same = true } → compared (first ++ second) text ≡ compared second rest
compared-more [] second text rest same = ap (λ (c : Compared). compared second c.rest) same
compared-more (line ∷ first) second text rest same = elim (cases_Bool (starts_with nat_eq text line)) [
  | inl begins ↦ rw begins (compared-more first second (drop (length line) text) rest (rw begins at same))
  | inr differs ↦ absurd (let not_same : false ≡ true = ap (λ (c : Compared). c.same) (rw differs at same) in cc)
]

pub compared-stop : (first second : List (List ℕ)) (text rest : List ℕ) → compared first text ≡ record { rest = rest; same = false } → compared (first ++ second) text ≡ record { rest = rest; same = false }
compared-stop [] second text rest differs = absurd (let not_same : true ≡ false = ap (λ (c : Compared). c.same) differs in cc)
compared-stop (line ∷ first) second text rest differs = elim (cases_Bool (starts_with nat_eq text line)) [
  | inl begins ↦ rw begins (compared-stop first second (drop (length line) text) rest (rw begins at differs))
  | inr other ↦ rw other (rw other at differs)
]

-- the packets of a processor, and the processors of a phase
pub packets-at : (processor : ℕ) (packets : List Carried) (place : ℕ) (packet : Carried) → slice_get packets place ≡ Some packet → packets_lines processor place (drop place packets) ≡ packet_trace processor place packet ∷ packets_lines processor (place + 1) (drop (place + 1) packets)
packets-at processor packets place packet here = ap (packets_lines processor place) (drop-at packets place packet here)

pub packets-end : (processor : ℕ) (packets : List Carried) (place : ℕ) → length packets ≤ place → packets_lines processor place (drop place packets) ≡ []
packets-end processor packets place all = ap (packets_lines processor place) (drop_all place packets all)

pub processors-at : (carried : List (List Carried)) (place : ℕ) (packets : List Carried) → slice_get carried place ≡ Some packets → processors_lines place (drop place carried) ≡ packets_lines place 0 packets ++ processors_lines (place + 1) (drop (place + 1) carried)
processors-at carried place packets here = ap (processors_lines place) (drop-at carried place packets here)

pub processors-end : (carried : List (List Carried)) (place : ℕ) → length carried ≤ place → processors_lines place (drop place carried) ≡ []
processors-end carried place all = ap (processors_lines place) (drop_all place carried all)

-- one line more, or one that differs
pub lines-step : (line : List ℕ) (lines more : List (List ℕ)) (text rest : List ℕ) (same : Bool) (all : Compared) → lines ≡ line ∷ more → compared (line ∷ []) text ≡ record { rest = rest; same = same } → same ≡ true → compared lines text ≡ all → compared more rest ≡ all
lines-step line lines more text rest true all is seen is_so so_far =
    sym (compared-more (line ∷ []) more text rest seen) ∙ (ap (λ ls. compared ls text) (sym is) ∙ so_far)
lines-step line lines more text rest false all is seen is_so so_far = absurd cc

pub lines-stop : (line : List ℕ) (lines more : List (List ℕ)) (text rest : List ℕ) (same : Bool) (all : Compared) → lines ≡ line ∷ more → compared (line ∷ []) text ≡ record { rest = rest; same = same } → same ≡ false → compared lines text ≡ all → all ≡ record { rest = rest; same = false }
lines-stop line lines more text rest true all is seen isnt so_far = absurd cc
lines-stop line lines more text rest false all is seen isnt so_far =
    sym so_far ∙ (ap (λ ls. compared ls text) is ∙ compared-stop (line ∷ []) more text rest seen)

pub lines-end : (lines : List (List ℕ)) (text : List ℕ) (all : Compared) → lines ≡ [] → compared lines text ≡ all → all ≡ record { rest = text; same = true }
lines-end lines text all none so_far = sym so_far ∙ ap (λ ls. compared ls text) none

-- several lines more, or one of them that differs
pub parts-step : (first lines more : List (List ℕ)) (text rest : List ℕ) (same : Bool) (all : Compared) → lines ≡ first ++ more → compared first text ≡ record { rest = rest; same = same } → same ≡ true → compared lines text ≡ all → compared more rest ≡ all
parts-step first lines more text rest true all is seen is_so so_far =
    sym (compared-more first more text rest seen) ∙ (ap (λ ls. compared ls text) (sym is) ∙ so_far)
parts-step first lines more text rest false all is seen is_so so_far = absurd cc

pub parts-stop : (first lines more : List (List ℕ)) (text rest : List ℕ) (same : Bool) (all : Compared) → lines ≡ first ++ more → compared first text ≡ record { rest = rest; same = same } → same ≡ false → compared lines text ≡ all → all ≡ record { rest = rest; same = false }
parts-stop first lines more text rest true all is seen isnt so_far = absurd cc
parts-stop first lines more text rest false all is seen isnt so_far =
    sym so_far ∙ (ap (λ ls. compared ls text) is ∙ compared-stop first more text rest seen)

-- a phase: its first line, its processors' and its end's
phase-left : (first : List ℕ) (more : List (List ℕ)) (text middle : List ℕ) (one : Bool) → compared (first ∷ []) text ≡ record { rest = middle; same = one } → one ≡ true → compared (first ∷ more) text ≡ compared more middle
phase-left first more text middle one seen is_so =
    sym (parts-step (first ∷ []) (first ∷ more) more text middle one (compared (first ∷ more) text) refl seen is_so refl)

pub phase-stop : (first : List ℕ) (processors ends : List (List ℕ)) (text middle rest : List ℕ) (one two : Bool) → compared (first ∷ []) text ≡ record { rest = middle; same = one } → one ≡ true → compared processors middle ≡ record { rest = rest; same = two } → two ≡ false → compared (first ∷ (processors ++ ends)) text ≡ record { rest = rest; same = false }
phase-stop first processors ends text middle rest one true seen is_so more isnt = absurd cc
phase-stop first processors ends text middle rest one false seen is_so more isnt =
    phase-left first (processors ++ ends) text middle one seen is_so ∙ compared-stop processors ends middle rest more

pub phase-same : (first : List ℕ) (processors ends : List (List ℕ)) (text middle rest : List ℕ) (one two : Bool) (last : Compared) → compared (first ∷ []) text ≡ record { rest = middle; same = one } → one ≡ true → compared processors middle ≡ record { rest = rest; same = two } → two ≡ true → compared ends rest ≡ last → compared (first ∷ (processors ++ ends)) text ≡ last
phase-same first processors ends text middle rest one false last seen is_so more is ended = absurd cc
phase-same first processors ends text middle rest one true last seen is_so more is ended =
    phase-left first (processors ++ ends) text middle one seen is_so ∙ (compared-more processors ends middle rest more ∙ ended)

-- there are at most as many line feeds as bytes
pub few-feeds : (text : List ℕ) (feeds : ℕ) → feeds ≡ count_by (λ b. b == 10) text → feeds ≤ length text
few-feeds text feeds is = omega (arith, is, count_by-le-length (λ b. b == 10) text)

pub ruleset feeds = (few-feeds)
