-- A state that goes on over a phase's changes, from item to item.
use Rattle.std.proofs.Common.{◌≡◌, ℕ, ◌+◌, ◌-◌, ◌≤◌, zero, suc, List, [], ◌∷◌, ◌++◌, length, take, drop, fold, get_or, min, max, ◌<◌, append_assoc, length-append, refl, sym, ap, ◌∙◌, arith}
use Rattle.std.proofs.Math.Seq.{take-append-add}
use Rattle.std.proofs.lemmas.List.{drop_all, drop_more}
use Rattle.std.proofs.lemmas.List.Sums.{fold-append}
use Rattle.script_text.specs.Texts.{outcome_text}
use Rattle.xdp_state.proofs.Counts.{count_after}
use Rattle.xdp_state.specs.Sums.{Past}
use Rattle.xdp_state.specs.declared.library.Library.{Library}
use Rattle.xdp_tool.proofs.Due.{taken-front}
use Rattle.xdp_tool.specs.Texts.{items_text, table_text}
use Rattle.xdp_state.specs.Book.{AllTaken, Book, after, applied, empty}
use Rattle.xdp_state.specs.declared.change.Change.{Change}
use Rattle.xdp_tool.specs.Walked.{AreRising}
use Rattle.xdp_tool.specs.declared.item.Item.{Item}

-- a front, and what follows it up to a place
take-split : {A : Type 0} (m n k : ℕ) (xs : List A) → m + n ≡ k → take m xs ++ take n (drop m xs) ≡ take k xs
take-split zero n k xs is = let same : n ≡ k = omega (arith, is) in ap (λ j. take j xs) same
take-split (suc m) n zero xs is = absurd (omega (arith, is))
take-split (suc m) zero (suc k) [] is = refl
take-split (suc m) (suc n) (suc k) [] is = refl
take-split (suc m) n (suc k) (x ∷ xs) is = ap (λ more. x ∷ more) (take-split m n k xs (omega (arith, is)))

-- the state goes on to a place
pub goes-to : (before changes : List Change) (done place : ℕ) (state : Book) → done ≤ place → state ≡ after (before ++ take done changes) → fold applied state (take (place - done) (drop done changes)) ≡ after (before ++ take place changes)
goes-to before changes done place state le is =
    ap (λ b. fold applied b (take (place - done) (drop done changes))) is
    ∙ (sym (fold-append applied empty (before ++ take done changes) (take (place - done) (drop done changes)))
    ∙ ap after (append_assoc before (take done changes) (take (place - done) (drop done changes)) ∙ ap (λ xs. before ++ xs) (take-split done (place - done) place changes (omega arith))))

-- and to the last one
pub goes-whole : (before changes : List Change) (done : ℕ) (state : Book) → state ≡ after (before ++ take done changes) → fold applied state (drop done changes) ≡ after (before ++ changes)
goes-whole before changes done state is =
    ap (λ b. fold applied b (drop done changes)) is
    ∙ (sym (fold-append applied empty (before ++ take done changes) (drop done changes))
    ∙ ap after (append_assoc before (take done changes) (drop done changes) ∙ ap (λ xs. before ++ xs) (whole done changes)))
  where
    whole : (n : ℕ) (xs : List Change) → take n xs ++ drop n xs ≡ xs
    whole zero xs = refl
    whole (suc n) [] = refl
    whole (suc n) (x ∷ xs) = ap (λ more. x ∷ more) (whole n xs)

-- the publications until an item, of those before the phase and of the phase
pub until-item : (before changes : List Change) (count place : ℕ) → length before + place ≡ count → take count (before ++ changes) ≡ before ++ take place changes
until-item before changes count place is = ap (λ n. take n (before ++ changes)) (sym is) ∙ take-append-add before changes place

pub rising-last : (low : ℕ) (items : List Item) (high : ℕ) → AreRising low items high → low ≤ high
rising-last low [] high up = up
rising-last low (item ∷ items) high up = omega (arith, up.0, rising-last item.count items high up.1)

-- one item more: the state goes to its count
pub record Step (before changes : List Change) (items : List Item) (i : ℕ) (d : Item) (place : ℕ) (state : Book) : Type 0 where
  pub now : state ≡ after (before ++ take place changes)
  pub rising : AreRising (length before + place) (drop (i + 1) items) (length (before ++ changes))
  pub shown : state ≡ after (take (get_or items i d).count (before ++ changes))

pub items-step : (before changes : List Change) (items : List Item) (i : ℕ) (d : Item) (start sat due done place : ℕ) (old new : Book) → AllTaken (before ++ changes) → start ≡ (after before).count → i < length items → done ≤ length changes → sat ≡ (get_or items i d).count - start → due ≡ min sat (length changes) → place ≡ max due done → old ≡ after (before ++ take done changes) → AreRising (length before + done) (drop i items) (length (before ++ changes)) → new ≡ fold applied old (take (place - done) (drop done changes)) → Step before changes items i d place new
items-step before changes items i d start sat due done place old new taken begins below within sub low high is rising goes =
    let item = get_or items i d in
    let first : start ≡ length before = begins ∙ count_after before (taken-front before changes taken) in
    let left : drop i items ≡ item ∷ drop (i + 1) items = drop_more items i d below in
    let up = rw left at rising in
    let last : item.count ≤ length (before ++ changes) = rising-last item.count (drop (i + 1) items) (length (before ++ changes)) (up.1) in
    let at : length before + place ≡ item.count = omega (arith, length-append before changes, last, up.0, first, sub, low, high, within) in
    let now : new ≡ after (before ++ take place changes) = goes ∙ goes-to before changes done place old (omega (arith, high)) is in
    record {
      now = now;
      rising = rw at (up.1);
      shown = now ∙ ap after (sym (until-item before changes item.count place at));
    }

-- the item at a place, with the table of the state at its count, in front of those behind it
pub items-front : (library : Library) (past : Past) (published : List Change) (items : List Item) (i : ℕ) (d : Item) (state : Book) → i < length items → state ≡ after (take (get_or items i d).count published) → items_text library past published (drop i items) ≡ (outcome_text (get_or items i d).line (get_or items i d).outcome ++ table_text library past state (get_or items i d).table) ++ items_text library past published (drop (i + 1) items)
items-front library past published items i d state below shown =
    let item = get_or items i d in
    let left : drop i items ≡ item ∷ drop (i + 1) items = drop_more items i d below in
    ap (items_text library past published) left
    ∙ ap (λ b. (outcome_text item.line item.outcome ++ table_text library past b item.table) ++ items_text library past published (drop (i + 1) items)) (sym shown)

-- behind the last item
pub items-none : (library : Library) (past : Past) (published : List Change) (items : List Item) (i : ℕ) → length items ≤ i → items_text library past published (drop i items) ≡ []
items-none library past published items i all = ap (items_text library past published) (drop_all i items all)
