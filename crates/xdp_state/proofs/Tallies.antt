-- How sums grow by a packet, and by all packets of another tally.
use Rattle.std.proofs.Common.{◌≡◌, ℕ, ◌+◌, ◌<◌, cond, nat_eq, List, [], ◌∷◌, ◌++◌, slice_index, length, zero, suc, refl, sym, ap, ◌∙◌, arith}
use Rattle.std.proofs.lemmas.List.{append-nil}
use Rattle.std.proofs.lemmas.List.Concat.{flat_map-append}
use Rattle.std.proofs.lemmas.List.Sums.{sum_by-append}
use Rattle.std.proofs.lemmas.Bool.Decides.{nat_tests}
use Rattle.xdp_state.specs.Capped.{capped}
use Rattle.xdp_state.specs.Hits.{hits_in, merged, named_more}
use Rattle.xdp_state.specs.Sums.{Counted, by_action, tally_of, packets_with, bytes_with, named, times, hit_rows, rows_from}
use Rattle.xdp_state.specs.declared.hits.HitRow.{HitRow}
use Rattle.xdp_state.specs.declared.tally.Tally.{Tally}
use Rattle.xdp_state.proofs.HitSums.{hit_rows-add, hit_rows-merge, hit_rows-hits}
use Rattle.xio.specs.Action.{number}

pub packets_with-append : (a : ℕ) (xs ys : List Counted) → packets_with a (xs ++ ys) ≡ packets_with a xs + packets_with a ys
packets_with-append a xs ys = sum_by-append _ xs ys

pub bytes_with-append : (a : ℕ) (xs ys : List Counted) → bytes_with a (xs ++ ys) ≡ bytes_with a xs + bytes_with a ys
bytes_with-append a xs ys = sum_by-append _ xs ys

-- the sums of a list of five are those of its places
pub by_action-of : (xs : List ℕ) (f : ℕ → ℕ) → length xs ≡ 5 → ((a : ℕ) → a < 5 → slice_index xs a ≡ f a) → xs ≡ by_action f
by_action-of [] f five at = absurd (omega arith)
by_action-of (x0 ∷ []) f five at = absurd (omega arith)
by_action-of (x0 ∷ x1 ∷ []) f five at = absurd (omega arith)
by_action-of (x0 ∷ x1 ∷ x2 ∷ []) f five at = absurd (omega arith)
by_action-of (x0 ∷ x1 ∷ x2 ∷ x3 ∷ []) f five at = absurd (omega arith)
by_action-of (x0 ∷ x1 ∷ x2 ∷ x3 ∷ x4 ∷ []) f five at =
    let at0 : x0 ≡ f 0 = at 0 (omega arith) in
    let at1 : x1 ≡ f 1 = at 1 (omega arith) in
    let at2 : x2 ≡ f 2 = at 2 (omega arith) in
    let at3 : x3 ≡ f 3 = at 3 (omega arith) in
    let at4 : x4 ≡ f 4 = at 4 (omega arith) in
    cc
by_action-of (x0 ∷ x1 ∷ x2 ∷ x3 ∷ x4 ∷ x5 ∷ xs) f five at = absurd (omega arith)

same_tally : (hs js : List HitRow) (ps bs qs cs : List ℕ) → hs ≡ js → ps ≡ qs → bs ≡ cs → record { hits = hs; packets = ps; bytes = bs } ≡ (let t : Tally = record { hits = js; packets = qs; bytes = cs } in t)
same_tally hs js ps bs qs cs hits packets bytes = rw (hits, packets, bytes) refl

-- what stands at an action's place
pub at-by_action : (f : ℕ → ℕ) (a : ℕ) → a < 5 → slice_index (by_action f) a ≡ f a
at-by_action f zero below = refl
at-by_action f (suc zero) below = refl
at-by_action f (suc (suc zero)) below = refl
at-by_action f (suc (suc (suc zero))) below = refl
at-by_action f (suc (suc (suc (suc zero)))) below = refl
at-by_action f (suc (suc (suc (suc (suc a))))) below = absurd (omega arith)

-- one sum, when a packet comes
pub packets-add : (a : ℕ) (carried : List Counted) (c : Counted) (old new : ℕ) → old ≡ capped (packets_with a carried) → new ≡ cond (nat_eq a (number c.verdict)) (capped (old + 1)) old → new ≡ capped (packets_with a (carried ++ c ∷ []))
packets-add a carried c old new is raised = rw packets_with-append (grind (arith, nat_tests))

pub bytes-add : (a : ℕ) (carried : List Counted) (c : Counted) (old new : ℕ) → old ≡ capped (bytes_with a carried) → new ≡ cond (nat_eq a (number c.verdict)) (capped (old + c.handed)) old → new ≡ capped (bytes_with a (carried ++ c ∷ []))
bytes-add a carried c old new is raised = rw bytes_with-append (grind (arith, nat_tests))

-- one sum, when the packets of another come
pub packets-merge : (a : ℕ) (mine theirs : List Counted) (old by new : ℕ) → old ≡ capped (packets_with a mine) → by ≡ capped (packets_with a theirs) → new ≡ capped (old + by) → new ≡ capped (packets_with a (mine ++ theirs))
packets-merge a mine theirs old by new is other sum = rw packets_with-append (omega arith)

pub bytes-merge : (a : ℕ) (mine theirs : List Counted) (old by new : ℕ) → old ≡ capped (bytes_with a mine) → by ≡ capped (bytes_with a theirs) → new ≡ capped (old + by) → new ≡ capped (bytes_with a (mine ++ theirs))
bytes-merge a mine theirs old by new is other sum = rw bytes_with-append (omega arith)

named-push : (carried : List Counted) (c : Counted) → named (carried ++ c ∷ []) ≡ named carried ++ c.rules
named-push carried c = rw flat_map-append (ap (λ rs. named carried ++ rs) (append-nil c.rules))

pub tally-add : (t : Tally) (hs : List HitRow) (ps bs : List ℕ) (carried : List Counted) (c : Counted) → t ≡ tally_of carried
    → hs ≡ named_more t.hits c.rules → length ps ≡ 5 → length bs ≡ 5
    → ((a : ℕ) → a < 5 → slice_index ps a ≡ cond (nat_eq a (number c.verdict)) (capped (slice_index t.packets a + 1)) (slice_index t.packets a))
    → ((a : ℕ) → a < 5 → slice_index bs a ≡ cond (nat_eq a (number c.verdict)) (capped (slice_index t.bytes a + c.handed)) (slice_index t.bytes a))
    → record { hits = hs; packets = ps; bytes = bs } ≡ tally_of (carried ++ c ∷ [])
unfolding tally_of
tally-add t hs ps bs carried c is hits five five' packets bytes =
    same_tally hs _ ps bs _ _
    (hits ∙ ap (λ (t : Tally). named_more t.hits c.rules) is ∙ hit_rows-add (named carried) c.rules ∙ ap hit_rows (sym (named-push carried c)))
    (by_action-of ps (λ a. capped (packets_with a (carried ++ c ∷ []))) five (λ a below. packets-add a carried c (slice_index t.packets a) (slice_index ps a) (ap (λ (t : Tally). slice_index t.packets a) is ∙ at-by_action (λ a. capped (packets_with a carried)) a below) (packets a below)))
    (by_action-of bs (λ a. capped (bytes_with a (carried ++ c ∷ []))) five' (λ a below. bytes-add a carried c (slice_index t.bytes a) (slice_index bs a) (ap (λ (t : Tally). slice_index t.bytes a) is ∙ at-by_action (λ a. capped (bytes_with a carried)) a below) (bytes a below)))

pub tally-merge : (t u : Tally) (hs : List HitRow) (ps bs : List ℕ) (mine theirs : List Counted) → t ≡ tally_of mine → u ≡ tally_of theirs
    → hs ≡ merged t.hits u.hits → length ps ≡ 5 → length bs ≡ 5
    → ((a : ℕ) → a < 5 → slice_index ps a ≡ capped (slice_index t.packets a + slice_index u.packets a))
    → ((a : ℕ) → a < 5 → slice_index bs a ≡ capped (slice_index t.bytes a + slice_index u.bytes a))
    → record { hits = hs; packets = ps; bytes = bs } ≡ tally_of (mine ++ theirs)
unfolding tally_of
tally-merge t u hs ps bs mine theirs is other hits five five' packets bytes =
    same_tally hs _ ps bs _ _
    (hits ∙ ap (λ (t : Tally). merged t.hits u.hits) is ∙ ap (λ (u : Tally). merged (hit_rows (named mine)) u.hits) other ∙ hit_rows-merge (named mine) (named theirs) ∙ ap hit_rows (sym (flat_map-append (λ (c : Counted). c.rules) mine theirs)))
    (by_action-of ps (λ a. capped (packets_with a (mine ++ theirs))) five (λ a below. packets-merge a mine theirs (slice_index t.packets a) (slice_index u.packets a) (slice_index ps a) (ap (λ (t : Tally). slice_index t.packets a) is ∙ at-by_action (λ a. capped (packets_with a mine)) a below) (ap (λ (t : Tally). slice_index t.packets a) other ∙ at-by_action (λ a. capped (packets_with a theirs)) a below) (packets a below)))
    (by_action-of bs (λ a. capped (bytes_with a (mine ++ theirs))) five' (λ a below. bytes-merge a mine theirs (slice_index t.bytes a) (slice_index u.bytes a) (slice_index bs a) (ap (λ (t : Tally). slice_index t.bytes a) is ∙ at-by_action (λ a. capped (bytes_with a mine)) a below) (ap (λ (t : Tally). slice_index t.bytes a) other ∙ at-by_action (λ a. capped (bytes_with a theirs)) a below) (bytes a below)))

pub tally-none : (hs : List HitRow) → hs ≡ [] → record { hits = hs; packets = 0 ∷ 0 ∷ 0 ∷ 0 ∷ 0 ∷ []; bytes = 0 ∷ 0 ∷ 0 ∷ 0 ∷ 0 ∷ [] } ≡ tally_of []
unfolding tally_of rows_from
tally-none hs none = rw none refl

pub tally-hits : (t : Tally) (carried : List Counted) (rule : ℕ) → t ≡ tally_of carried → hits_in t.hits rule ≡ capped (times (named carried) rule)
unfolding tally_of
tally-hits t carried rule is = ap (λ (t : Tally). hits_in t.hits rule) is ∙ hit_rows-hits (named carried) rule
