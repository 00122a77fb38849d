-- Where each change of a list is taken, the count is the list's length.
use Rattle.std.proofs.Common.{◌≡◌, ◌+◌, true, false, Bool, ◌&&◌, List, [], ◌∷◌, ◌++◌, length, refl, ap, ◌∙◌, subst, arith}
use Rattle.std.specs.List.{fold}
use Rattle.std.proofs.lemmas.List.Sums.{fold-append}
use Rattle.xdp_state.specs.Book.{Book, AllTaken, after, all_taken_from, applied, empty, made, takes}
use Rattle.xdp_state.specs.declared.change.Change.{Change}
use Rattle.xdp_state.specs.declared.change.Change.TheVariants.{Attach, Detach, DetachAll, SetRule, ClearRule, DumpOn, DumpOff}

pub count_made : (book : Book) (change : Change) → (made book change).count ≡ book.count + 1
count_made book (Attach interface kind priority rank mask mode) = refl
count_made book (Detach interface number clear_rules) = refl
count_made book (DetachAll interface) = refl
count_made book (SetRule key flags) = refl
count_made book (ClearRule key flags) = refl
count_made book (DumpOn interface setting) = refl
count_made book (DumpOff interface) = refl

both : (a b : Bool) → (a && b) ≡ true → record { first : a ≡ true; second : b ≡ true }
both true b h = record { first = refl; second = h }
both false b h = absurd cc

applied_taken : (book : Book) (change : Change) → takes book change ≡ true → applied book change ≡ made book change
applied_taken book change taken = rw taken refl

count_from : (book : Book) (changes : List Change) → all_taken_from book changes ≡ true → (fold applied book changes).count ≡ book.count + length changes
count_from book [] taken = omega arith
count_from book (change ∷ changes) taken =
    let h = both (takes book change) (all_taken_from (made book change) changes) taken in
    let rest : (fold applied (made book change) changes).count ≡ (made book change).count + length changes = count_from (made book change) changes h.second in
    let one : fold applied (applied book change) changes ≡ fold applied (made book change) changes = ap (λ b. fold applied b changes) (applied_taken book change h.first) in
    ap (λ (b : Book). b.count) one ∙ rest ∙ omega (arith, count_made book change)

pub count_after : (changes : List Change) → AllTaken changes → (after changes).count ≡ length changes
count_after changes taken = count_from empty changes taken ∙ omega arith

more_from : (book : Book) (changes : List Change) (change : Change) → all_taken_from book changes ≡ true → takes (fold applied book changes) change ≡ true → all_taken_from book (changes ++ change ∷ []) ≡ true
more_from book [] change taken next = rw next refl
more_from book (first ∷ changes) change taken next =
    let h = both (takes book first) (all_taken_from (made book first) changes) taken in
    let next' : takes (fold applied (made book first) changes) change ≡ true = subst (λ b. takes (fold applied b changes) change ≡ true) (applied_taken book first h.first) next in
    rw h.first (more_from (made book first) changes change h.second next')

-- one more change that is taken after the others
pub taken_more : (changes : List Change) (change : Change) → AllTaken changes → takes (after changes) change ≡ true → AllTaken (changes ++ change ∷ [])
taken_more changes change taken next = more_from empty changes change taken next

pub after_more : (changes : List Change) (change : Change) → after (changes ++ change ∷ []) ≡ applied (after changes) change
after_more changes change = fold-append applied empty changes (change ∷ [])
