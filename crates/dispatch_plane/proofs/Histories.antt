-- How what is committed grows with the log.
use Rattle.std.proofs.Common.{◌≡◌, ℕ, suc, ◌<◌, ◌≤◌, List, [], ◌∷◌, ◌++◌, length, Option, Some, None, refl, ap, sym, ◌∙◌, subst, arith, length-append, ⊎_elim}
use Rattle.std.proofs.lemmas.List.{append-nil}
use Rattle.std.proofs.lemmas.Bool.{cases_lt}
use base.Growing.{prefix_refl, prefix_trans}
use mathlib.Core.List.{IsPrefix}
use Rattle.xdp_state.specs.declared.change.Change.{Change}
use Rattle.dispatch_plane.specs.declared.entry.Entry.{Entry}
use Rattle.dispatch_plane.specs.declared.entry.Entry.TheVariants.{Draft, Commit}
use Rattle.dispatch_plane.specs.History.{begun, committed_from, committed, shown}
use Rattle.dispatch_plane.proofs.Prefixes.{starts_longer}

none_shown : shown [] ≡ []
unfolding committed_from
none_shown = refl

none_committed : committed [] ≡ []
unfolding committed_from
none_committed = refl

-- before the first entry
pub shown_none : (log : List Entry) → log ≡ [] → shown log ≡ []
shown_none log none = ap shown none ∙ none_shown

pub committed_none : (log : List Entry) → log ≡ [] → committed log ≡ []
committed_none log none = ap committed none ∙ none_committed

begins : (draft : Option Change) (xs ys : List Change) → IsPrefix xs ys → IsPrefix (begun draft xs) (begun draft ys)
begins None xs ys a = a
begins (Some change) xs ys a = (a.0, ap (λ zs. change ∷ zs) a.1)

grows_from : (draft : Option Change) (log more : List Entry) → IsPrefix (committed_from draft log) (committed_from draft (log ++ more))
unfolding committed_from
grows_from draft [] more = (committed_from draft more, refl)
grows_from draft (Draft change ∷ log) more = grows_from (Some change) log more
grows_from draft (Commit ∷ log) more = begins draft (committed_from None log) (committed_from None (log ++ more)) (grows_from None log more)

-- more entries take nothing back
pub committed_grows : (log later : List Entry) → IsPrefix log later → IsPrefix (committed log) (committed later)
committed_grows log later a = subst (λ (l : List Entry). IsPrefix (committed log) (committed l)) a.1 (grows_from None log a.0)

pub committed_shown : (log : List Entry) → IsPrefix (committed log) (shown log)
committed_shown log = grows_from None log (Commit ∷ [])

drafted_from : (draft : Option Change) (log : List Entry) (change : Change) → committed_from draft (log ++ Draft change ∷ []) ≡ committed_from draft log
unfolding committed_from
drafted_from draft [] change = refl
drafted_from draft (Draft other ∷ log) change = drafted_from (Some other) log change
drafted_from draft (Commit ∷ log) change = ap (begun draft) (drafted_from None log change)

-- a draft alone commits nothing
pub committed-draft : (log : List Entry) (change : Change) → committed (log ++ Draft change ∷ []) ≡ committed log
committed-draft log change = drafted_from None log change

begun-append : (draft : Option Change) (xs ys : List Change) → begun draft (xs ++ ys) ≡ begun draft xs ++ ys
begun-append None xs ys = refl
begun-append (Some change) xs ys = refl

published_from : (draft : Option Change) (log : List Entry) (change : Change) → committed_from draft ((log ++ Draft change ∷ []) ++ Commit ∷ []) ≡ committed_from draft log ++ change ∷ []
unfolding committed_from
published_from draft [] change = refl
published_from draft (Draft other ∷ log) change = published_from (Some other) log change
published_from draft (Commit ∷ log) change = ap (begun draft) (published_from None log change) ∙ begun-append draft (committed_from None log) (change ∷ [])

-- a draft and its commit make one change more
pub shown-draft : (log : List Entry) (change : Change) → shown (log ++ Draft change ∷ []) ≡ committed log ++ change ∷ []
shown-draft log change = published_from None log change

last_shown : (log : List Entry) (entry : Entry) → IsPrefix (committed (log ++ entry ∷ [])) (shown log)
last_shown log (Draft change) = subst (λ (cs : List Change). IsPrefix cs (shown log)) (sym (committed-draft log change)) (committed_shown log)
last_shown log Commit = prefix_refl (shown log)

one_more : (log later rest : List Entry) → log ++ rest ≡ later → length later ≤ suc (length log) → IsPrefix (committed later) (shown log)
one_more log later [] is le = subst (λ (l : List Entry). IsPrefix (committed l) (shown log)) (sym (append-nil log) ∙ is) (committed_shown log)
one_more log later (entry ∷ []) is le = subst (λ (l : List Entry). IsPrefix (committed l) (shown log)) is (last_shown log entry)
one_more log later (entry ∷ other ∷ rest) is le = absurd (omega (arith, sym (ap length is) ∙ length-append log (entry ∷ other ∷ rest)))

-- Of two beginnings of one log, one shows all that the other has committed where that is longer by one entry at most.
pub shows_committed : (log told whole : List Entry) → IsPrefix log whole → IsPrefix told whole → length told ≤ suc (length log) → IsPrefix (committed told) (shown log)
shows_committed log told whole a b le =
    ⊎_elim
    (λ (longer : length log < length told). let more = starts_longer log told whole a b (omega arith) in one_more log told more.0 more.1 le)
    (λ (shorter : length told ≤ length log). prefix_trans (committed told) (committed log) (shown log) (committed_grows told log (starts_longer told log whole b a shorter)) (committed_shown log))
    (cases_lt (length log) (length told))
