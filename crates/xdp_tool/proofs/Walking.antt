-- The facts that a walk keeps, as packets come and publications are made.
use Rattle.std.proofs.Common.{◌≡◌, ℕ, ◌≤◌, zero, suc, Bool, true, false, ◌||◌, List, [], ◌∷◌, ◌++◌, length, replicate, refl, ap, sym, ◌∙◌, arith, slice_set, get_or}
use Rattle.std.proofs.lemmas.List.{map-append}
use Rattle.std.proofs.lemmas.List.Folds.{list_any-append}
use Rattle.std.proofs.lemmas.Option.{slice_get_within}
use Rattle.std.specs.List.{list_all, list_any, slice_get}
use Rattle.std.specs.Prelude.{Some, ◌&&◌}
use Rattle.xdp_state.proofs.Counts.{count_after}
use Rattle.xdp_state.specs.Book.{AllTaken, after}
use Rattle.xdp_state.specs.Legal.{AreLegalCounts}
use Rattle.xdp_state.specs.Work.{needs_of}
use Rattle.xdp_state.specs.declared.change.Change.{Change}
use Rattle.xdp_state.specs.declared.packet.HandIn.{HandIn}
use Rattle.xdp_tool.specs.Plan.{handed_to, is_refused}
use Rattle.xdp_tool.specs.Walked.{AreRising, AreSteady}
use Rattle.xdp_tool.specs.declared.item.Item.{Item}

-- legal counts stay legal as more is published
pub legal-higher : (last low high : ℕ) (needs counts : List ℕ) → low ≤ high → AreLegalCounts last low needs counts → AreLegalCounts last high needs counts
legal-higher last low high [] [] le legal = legal
legal-higher last low high [] (c ∷ cs) le legal = legal
legal-higher last low high (n ∷ ns) [] le legal = legal
legal-higher last low high (n ∷ ns) (c ∷ cs) le legal = (legal.0, legal.1, omega (arith, legal.2), legal-higher c low high ns cs le legal.3)

legal-push : (last n : ℕ) (needs counts : List ℕ) → last ≤ n → AreLegalCounts last n needs counts → AreLegalCounts last n (needs ++ n ∷ []) (counts ++ n ∷ [])
legal-push last n [] [] le legal = (le, omega arith, omega arith, tt)
legal-push last n [] (c ∷ cs) le legal = absurd legal
legal-push last n (m ∷ ms) [] le legal = absurd legal
legal-push last n (m ∷ ms) (c ∷ cs) le legal = (legal.0, legal.1, legal.2, legal-push c n ms cs legal.2 legal.3)

pub steady-higher : (low high more : ℕ) (hss : List (List HandIn)) → high ≤ more → AreSteady low high hss → AreSteady low more hss
steady-higher low high more [] le steady = tt
steady-higher low high more (hs ∷ hss) le steady = (legal-higher low high more (needs_of hs) (needs_of hs) le steady.0, steady-higher low high more hss le steady.1)

-- a packet's need is the number of publications at its hand-in
pub steady-handed : (low n processor : ℕ) (h : HandIn) (hss : List (List HandIn)) → low ≤ n → h.need ≡ n → AreSteady low n hss → AreSteady low n (handed_to processor h hss)
steady-handed low n processor h [] le need steady = tt
steady-handed low n zero h (hs ∷ hss) le need steady =
    (rw (map-append (λ (x : HandIn). x.need) hs (h ∷ []), need) (legal-push low n (needs_of hs) (needs_of hs) le steady.0), steady.1)
steady-handed low n (suc processor) h (hs ∷ hss) le need steady = (steady.0, steady-handed low n processor h hss le need steady.1)

pub steady-none : (low high n : ℕ) → AreSteady low high (replicate n [])
steady-none low high zero = tt
steady-none low high (suc n) = (tt, steady-none low high n)

pub length-handed : (processor : ℕ) (h : HandIn) (hss : List (List HandIn)) → length (handed_to processor h hss) ≡ length hss
length-handed processor h [] = refl
length-handed zero h (hs ∷ hss) = refl
length-handed (suc processor) h (hs ∷ hss) = omega (arith, length-handed processor h hss)

-- a packet put in the list at its processor's place, and one of no processor
pub handed-set : (processor : ℕ) (h : HandIn) (hss : List (List HandIn)) (hs new : List HandIn) → processor ≤ length hss → hs ≡ get_or hss processor hs → new ≡ hs ++ h ∷ [] → slice_set hss processor new ≡ handed_to processor h hss
handed-set processor h [] hs new below is more = refl
handed-set zero h (x ∷ hss) hs new below is more = rw (more, is) refl
handed-set (suc processor) h (x ∷ hss) hs new below is more = ap (λ rest. x ∷ rest) (handed-set processor h hss hs new (omega arith) is more)

pub handed-past : (processor : ℕ) (h : HandIn) (hss : List (List HandIn)) → length hss ≤ processor → handed_to processor h hss ≡ hss
handed-past processor h [] past = refl
handed-past zero h (hs ∷ hss) past = absurd (omega arith)
handed-past (suc processor) h (hs ∷ hss) past = ap (λ rest. hs ∷ rest) (handed-past processor h hss (omega arith))

pub rising-low : (low : ℕ) (items : List Item) (high : ℕ) → AreRising low items high → low ≤ high
rising-low low [] high up = up
rising-low low (item ∷ items) high up = omega (arith, up.0, rising-low item.count items high up.1)

pub rising-higher : (low : ℕ) (items : List Item) (high more : ℕ) → high ≤ more → AreRising low items high → AreRising low items more
rising-higher low [] high more le up = omega (arith, up)
rising-higher low (item ∷ items) high more le up = (up.0, rising-higher item.count items high more le up.1)

pub rising-push : (low : ℕ) (items : List Item) (high : ℕ) (item : Item) → item.count ≡ high → AreRising low items high → AreRising low (items ++ item ∷ []) high
rising-push low [] high item is up = (omega (arith, up, is), omega (arith, is))
rising-push low (x ∷ items) high item is up = (up.0, rising-push x.count items high item is up.1)

-- one item more: it is a refusal, or it isn't
pub refused-push : (past : Bool) (items : List Item) (item : Item) (before : Bool) → before ≡ (past || list_any is_refused items) → is_refused item ≡ false → before ≡ (past || list_any is_refused (items ++ item ∷ []))
refused-push past items item before is plain =
    is ∙ ap (λ b. past || b) (sym (list_any-append is_refused items (item ∷ []) ∙ rw plain (or-false (list_any is_refused items))))
  where
    or-false : (b : Bool) → (b || (false || false)) ≡ b
    or-false true = refl
    or-false false = refl

pub refused-now : (past : Bool) (items : List Item) (item : Item) → is_refused item ≡ true → true ≡ (past || list_any is_refused (items ++ item ∷ []))
refused-now past items item refused =
    sym (ap (λ b. past || b) (list_any-append is_refused items (item ∷ []) ∙ rw refused (or-true (list_any is_refused items))) ∙ last past)
  where
    or-true : (b : Bool) → (b || (true || false)) ≡ true
    or-true true = refl
    or-true false = refl

    last : (b : Bool) → (b || true) ≡ true
    last true = refl
    last false = refl

pub or-none : (b : Bool) → b ≡ (b || false)
or-none true = refl
or-none false = refl

both : (a b : Bool) → (a && b) ≡ true → record { first : a ≡ true; second : b ≡ true }
both true b h = record { first = refl; second = h }
both false b h = absurd cc

-- what holds of each line holds of one
pub all-at : {A : Type 0} (p : A → Bool) (xs : List A) (place : ℕ) (x : A) → list_all p xs ≡ true → slice_get xs place ≡ Some x → p x ≡ true
all-at p [] place x all is = absurd (omega (arith, slice_get_within [] place x is))
all-at p (y ∷ xs) zero x all is = let same : y ≡ x = cc in rw (← same) ((both (p y) (list_all p xs) all).first)
all-at p (y ∷ xs) (suc place) x all is = all-at p xs place x ((both (p y) (list_all p xs) all).second) is

-- the state's count is the number of publications
pub count-is : (published : List Change) (count : ℕ) → AllTaken published → count ≡ (after published).count → count ≡ length published
count-is published count taken is = is ∙ count_after published taken
