-- The counts of a trace, as its lines are read.
use Rattle.std.proofs.Common.{◌≡◌, ℕ, ◌+◌, ◌<◌, ◌≤◌, ◌==◌, zero, suc, Bool, true, false, cond, List, [], ◌∷◌, ◌++◌, length, length-append, drop, get_or, slice_set, Err, append-nil, append_assoc, refl, sym, ap, ◌∙◌, arith}
use Rattle.std.specs.List.{onto_first}
use Rattle.std.proofs.lemmas.List.{drop_more, drop-set-lt}
use Rattle.std.proofs.lemmas.List.Splits.{length-slice_split}
use Rattle.script_text.specs.TraceRead.{TraceCounts, at_end, counted_on, last_phase}
use Rattle.script_text.specs.Words.{parts_of}

-- a count put in the list at its processor's place, and one of no processor
pub counted-set : (processor count : ℕ) (lists : List (List ℕ)) (counts new : List ℕ) → processor ≤ length lists → counts ≡ get_or lists processor counts → new ≡ counts ++ count ∷ [] → slice_set lists processor new ≡ counted_on processor count lists
counted-set processor count [] counts new below is more = refl
counted-set zero count (x ∷ lists) counts new below is more = rw (more, is) refl
counted-set (suc processor) count (x ∷ lists) counts new below is more = ap (λ rest. x ∷ rest) (counted-set processor count lists counts new (omega arith) is more)

pub counted-past : (processor count : ℕ) (lists : List (List ℕ)) → length lists ≤ processor → counted_on processor count lists ≡ lists
counted-past processor count [] past = refl
counted-past zero count (counts ∷ lists) past = absurd (omega arith)
counted-past (suc processor) count (counts ∷ lists) past = ap (λ rest. counts ∷ rest) (counted-past processor count lists (omega arith))

-- one list more is handed over
pub list-step : (lists : List (List ℕ)) (k : ℕ) (list new : List ℕ) (done more all : List (List ℕ)) → k < length lists → list ≡ get_or lists k list → more ≡ done ++ list ∷ [] → done ++ drop k lists ≡ all → more ++ drop (k + 1) (slice_set lists k new) ≡ all
list-step lists k list new done more all below is pushed whole =
    let left : drop k lists ≡ list ∷ drop (k + 1) lists = drop_more lists k list below ∙ ap (λ x. x ∷ drop (k + 1) lists) (sym is) in
    let behind : drop (k + 1) (slice_set lists k new) ≡ drop (k + 1) lists = drop-set-lt (k + 1) lists k new (omega arith) in
    rw (pushed, behind, append_assoc done (list ∷ []) (drop (k + 1) lists)) (ap (λ xs. done ++ xs) (sym left) ∙ whole)

-- something stands behind the last line
end-parts : (read : TraceCounts) (line b : ℕ) (feed : Bool) (parts : List (List ℕ)) → 0 < length parts → at_end read line (cond feed ([] ∷ parts) (onto_first b parts)) ≡ Err line
end-parts read line b feed [] some = absurd (omega arith)
end-parts read line b true (part ∷ parts) some = refl
end-parts read line b false (part ∷ parts) some = refl

pub end-behind : (read : TraceCounts) (line : ℕ) (behind : List ℕ) → 0 < length behind → at_end read line (parts_of 10 behind) ≡ Err line
end-behind read line [] some = absurd (omega arith)
end-behind read line (b ∷ behind) some =
    end-parts read line b (b == 10) (parts_of 10 behind) (omega (arith, length-slice_split (λ x. x == 10) behind))

-- the phase under way
pub last-none : (last : List (List ℕ)) → length last ≡ 0 → last_phase last ≡ []
last-none [] none = refl
last-none (counts ∷ last) none = absurd (omega (arith, none))

pub last-one : (last : List (List ℕ)) → 0 < length last → last_phase last ≡ last ∷ []
last-one [] some = absurd (omega arith)
last-one (counts ∷ last) some = refl

-- how many phases there are
pub phases-none : (ended : List (List (List ℕ))) (last : List (List ℕ)) → length last ≡ 0 → length (ended ++ last_phase last) ≡ length ended
phases-none ended last none = rw (last-none last none, append-nil ended) refl

pub phases-one : (ended : List (List (List ℕ))) (last : List (List ℕ)) → 0 < length last → length (ended ++ last_phase last) ≡ length ended + 1
phases-one ended last some = ap (λ lists. length (ended ++ lists)) (last-one last some) ∙ length-append ended (last ∷ [])

pub ruleset phases = (phases-none, phases-one)

pub ruleset behind = (end-behind)

pub ruleset lasts = (last-none, last-one)
