-- The counts of a phase as far as they are legal, place by place.
use Rattle.std.proofs.Common.{◌≡◌, ℕ, ◌+◌, ◌-◌, ◌<◌, ◌≤◌, ◌==◌, ◌&&◌, min, suc, zero, Bool, true, false, List, [], ◌∷◌, ◌++◌, length, length-drop, take, drop, map, get_or, append-nil, append_assoc, refl, sym, ap, ◌∙◌, arith, inl, inr}
use Rattle.std.specs.Prelude.{Some, if◌then◌else◌, slice_get, slice_index, slice_index_or, slice_set}
use Rattle.std.proofs.lemmas.Bool.{and_parts, cases_Bool}
use Rattle.std.proofs.lemmas.Bool.Decides.{nat_tests}
use Rattle.std.proofs.lemmas.List.{drop_all, drop_more, length-map, length-take, map-append, take_more}
use Rattle.std.proofs.lemmas.Option.{get_or_from_slice_get}
use Rattle.xdp_state.specs.Legal.{AreLegalCounts, AreLegalFrom, first_last, last_of, lasts_of, other_lasts}
use Rattle.xdp_state.specs.Standing.{Standing}
use Rattle.xdp_state.specs.Work.{all_needs, needs_of}
use Rattle.xdp_state.specs.declared.packet.HandIn.{HandIn}
use Rattle.xdp_tool.specs.Carrying.{AreDue, AreLegalFront}
use Rattle.xdp_tool.specs.Replay.{are_whole, first_counts, front_if, fronts_from, is_legal, legal_front, other_counts}
use Rattle.xdp_tool.specs.Walked.{AreSteady}

-- one processor
pub front-legal : (k last high : ℕ) (hs : List HandIn) (counts done : List ℕ) (d h : HandIn) (c : ℕ) (all : List ℕ) → k < length hs → k < length counts → h ≡ get_or hs k d → c ≡ get_or counts k 0 → is_legal last h.need high c ≡ true → done ++ legal_front last high (needs_of (drop k hs)) (drop k counts) ≡ all → (done ++ c ∷ []) ++ legal_front c high (needs_of (drop (k + 1) hs)) (drop (k + 1) counts) ≡ all
front-legal k last high hs counts done d h c all below under here is legal so_far =
    let packets : drop k hs ≡ h ∷ drop (k + 1) hs = drop_more hs k d below ∙ ap (λ x. x ∷ drop (k + 1) hs) (sym here) in
    let theirs : drop k counts ≡ c ∷ drop (k + 1) counts = drop_more counts k 0 under ∙ ap (λ x. x ∷ drop (k + 1) counts) (sym is) in
    let this : legal_front last high (needs_of (drop k hs)) (drop k counts) ≡ c ∷ legal_front c high (needs_of (drop (k + 1) hs)) (drop (k + 1) counts) = rw (packets, theirs, legal) refl in
    append_assoc done (c ∷ []) (legal_front c high (needs_of (drop (k + 1) hs)) (drop (k + 1) counts)) ∙ (ap (λ more. done ++ more) (sym this) ∙ so_far)

pub front-illegal : (k last high : ℕ) (hs : List HandIn) (counts done : List ℕ) (d h : HandIn) (c : ℕ) (all : List ℕ) → k < length hs → k < length counts → h ≡ get_or hs k d → c ≡ get_or counts k 0 → is_legal last h.need high c ≡ false → done ++ legal_front last high (needs_of (drop k hs)) (drop k counts) ≡ all → done ≡ all
front-illegal k last high hs counts done d h c all below under here is illegal so_far =
    let packets : drop k hs ≡ h ∷ drop (k + 1) hs = drop_more hs k d below ∙ ap (λ x. x ∷ drop (k + 1) hs) (sym here) in
    let theirs : drop k counts ≡ c ∷ drop (k + 1) counts = drop_more counts k 0 under ∙ ap (λ x. x ∷ drop (k + 1) counts) (sym is) in
    let this : legal_front last high (needs_of (drop k hs)) (drop k counts) ≡ [] = rw (packets, theirs, illegal) refl in
    sym (append-nil done) ∙ (ap (λ more. done ++ more) (sym this) ∙ so_far)

none-packets : (last high : ℕ) (needs : List ℕ) → legal_front last high needs [] ≡ []
none-packets last high [] = refl
none-packets last high (need ∷ needs) = refl

-- no legal count is at the place
pub front-stop : (k last high : ℕ) (hs : List HandIn) (counts done : List ℕ) (d : HandIn) (all : List ℕ) → (k < length hs → k < length counts → is_legal last (get_or hs k d).need high (get_or counts k 0) ≡ false) → done ++ legal_front last high (needs_of (drop k hs)) (drop k counts) ≡ all → done ≡ all
front-stop k last high hs counts done d all stops so_far = by_case (drop k hs) (drop k counts) refl refl
  where
    none : legal_front last high (needs_of (drop k hs)) (drop k counts) ≡ [] → done ≡ all
    none is = sym (append-nil done) ∙ (ap (λ more. done ++ more) (sym is) ∙ so_far)

    above : {A : Type 0} (ys zs : List A) → drop k ys ≡ zs → 0 < length zs → k < length ys
    above ys zs is some = omega (arith, ap length is, length-drop k ys, some)

    by_case : (xs : List HandIn) (cs : List ℕ) → drop k hs ≡ xs → drop k counts ≡ cs → done ≡ all
    by_case [] cs packets theirs = none (rw packets refl)
    by_case (x ∷ xs) [] packets theirs = none (rw theirs (none-packets last high (needs_of (drop k hs))))
    by_case (x ∷ xs) (c ∷ cs) packets theirs =
        let below : k < length hs = above hs (x ∷ xs) packets (omega arith) in
        let under : k < length counts = above counts (c ∷ cs) theirs (omega arith) in
        front-illegal k last high hs counts done d (get_or hs k d) (get_or counts k 0) all below under refl refl (stops below under) so_far

-- the processor at a place
first-at : (lasts : List ℕ) (k : ℕ) → first_last (drop k lasts) ≡ slice_index lasts k
first-at [] zero = refl
first-at [] (suc k) = refl
first-at (last ∷ lasts) zero = refl
first-at (last ∷ lasts) (suc k) = first-at lasts k

others-at : (lasts : List ℕ) (k : ℕ) → other_lasts (drop k lasts) ≡ drop (k + 1) lasts
others-at [] zero = refl
others-at [] (suc k) = sym (drop_all (suc k + 1) [] (omega arith))
others-at (last ∷ lasts) zero = refl
others-at (last ∷ lasts) (suc k) = others-at lasts k ∙ (let next : suc (k + 1) ≡ suc k + 1 = omega arith in ap (λ n. drop n (last ∷ lasts)) next)

counts-at : (css : List (List ℕ)) (k : ℕ) → first_counts (drop k css) ≡ slice_index_or css k []
counts-at [] zero = refl
counts-at [] (suc k) = refl
counts-at (cs ∷ css) zero = refl
counts-at (cs ∷ css) (suc k) = counts-at css k

other-counts-at : (css : List (List ℕ)) (k : ℕ) → other_counts (drop k css) ≡ drop (k + 1) css
other-counts-at [] zero = refl
other-counts-at [] (suc k) = sym (drop_all (suc k + 1) [] (omega arith))
other-counts-at (cs ∷ css) zero = refl
other-counts-at (cs ∷ css) (suc k) = other-counts-at css k ∙ (let next : suc (k + 1) ≡ suc k + 1 = omega arith in ap (λ n. drop n (cs ∷ css)) next)

pub fronts-step : (whole : Bool) (k : ℕ) (lasts : List ℕ) (published : ℕ) (hss : List (List HandIn)) (css : List (List ℕ)) (d hs : List HandIn) (front : List ℕ) (done more all : List (List ℕ)) → k < length hss → hs ≡ get_or hss k d → front ≡ front_if whole (slice_index lasts k) published (needs_of hs) (slice_index_or css k []) → more ≡ done ++ front ∷ [] → done ++ fronts_from whole (drop k lasts) published (all_needs (drop k hss)) (drop k css) ≡ all → more ++ fronts_from (whole && (length front == length (needs_of hs))) (drop (k + 1) lasts) published (all_needs (drop (k + 1) hss)) (drop (k + 1) css) ≡ all
fronts-step whole k lasts published hss css d hs front done more all below here is pushed so_far =
    let packets : drop k hss ≡ hs ∷ drop (k + 1) hss = drop_more hss k d below ∙ ap (λ x. x ∷ drop (k + 1) hss) (sym here) in
    let this : fronts_from whole (drop k lasts) published (all_needs (drop k hss)) (drop k css) ≡ front ∷ fronts_from (whole && (length front == length (needs_of hs))) (drop (k + 1) lasts) published (all_needs (drop (k + 1) hss)) (drop (k + 1) css) =
    rw (packets, first-at lasts k, others-at lasts k, counts-at css k, other-counts-at css k, is) refl in
    rw pushed (append_assoc done (front ∷ []) _ ∙ (ap (λ fronts. done ++ fronts) (sym this) ∙ so_far))

pub whole-step : (needs counts : List (List ℕ)) (n c : List ℕ) → length counts ≡ length needs → are_whole (needs ++ n ∷ []) (counts ++ c ∷ []) ≡ (are_whole needs counts && (length c == length n))
whole-step [] [] n c same = and-true (length c == length n)
  where
    and-true : (b : Bool) → (b && true) ≡ b
    and-true true = refl
    and-true false = refl
whole-step [] (d ∷ counts) n c same = absurd (omega (arith, same))
whole-step (m ∷ needs) [] n c same = absurd (omega (arith, same))
whole-step (m ∷ needs) (d ∷ counts) n c same =
    ap (λ more. (length d == length m) && more) (whole-step needs counts n c (omega (arith, same))) ∙ and-again (length d == length m) (are_whole needs counts) (length c == length n)
  where
    and-again : (a b d : Bool) → (a && (b && d)) ≡ ((a && b) && d)
    and-again true b d = refl
    and-again false b d = refl

pub whole-more : (whole now : Bool) (k : ℕ) (hss : List (List HandIn)) (d hs : List HandIn) (front : List ℕ) (done more : List (List ℕ)) → k < length hss → hs ≡ get_or hss k d → length done ≡ k → whole ≡ are_whole (all_needs (take k hss)) done → now ≡ (whole && (length front == length (needs_of hs))) → more ≡ done ++ front ∷ [] → now ≡ are_whole (all_needs (take (k + 1) hss)) more
whole-more whole now k hss d hs front done more below here many is goes pushed =
    let taken : take (k + 1) hss ≡ take k hss ++ hs ∷ [] = take_more hss k d below ∙ ap (λ x. take k hss ++ x ∷ []) (sym here) in
    let needs : all_needs (take (k + 1) hss) ≡ all_needs (take k hss) ++ needs_of hs ∷ [] = ap all_needs taken ∙ map-append needs_of (take k hss) (hs ∷ []) in
    let size : length done ≡ length (all_needs (take k hss)) = omega (arith, many, length-map (take k hss) needs_of, length-take k hss, below) in
    goes ∙ (ap (λ b. b && (length front == length (needs_of hs))) is ∙ (sym (whole-step (all_needs (take k hss)) done (needs_of hs) front size)
    ∙ (ap (λ ns. are_whole ns (done ++ front ∷ [])) (sym needs) ∙ ap (are_whole (all_needs (take (k + 1) hss))) (sym pushed))))

pub length-fronts : (whole : Bool) (lasts : List ℕ) (published : ℕ) (needs css : List (List ℕ)) → length (fronts_from whole lasts published needs css) ≡ length needs
length-fronts whole lasts published [] css = refl
length-fronts whole lasts published (n ∷ needs) css = omega (arith, length-fronts (whole && (length (front_if whole (first_last lasts) published n (first_counts css)) == length n)) (other_lasts lasts) published needs (other_counts css))

-- what is known of a legal count
record Legal (last need high count : ℕ) : Type 0 where
  last_is : last ≤ count
  need_is : need ≤ count
  high_is : count ≤ high

legal-is : (last need high count : ℕ) → is_legal last need high count ≡ true → Legal last need high count
legal-is last need high count is = record {
  last_is = grind (arith, nat_tests, is);
  need_is = grind (arith, nat_tests, is);
  high_is = grind (arith, nat_tests, is);
}

-- they can be carried
front-self : (last high : ℕ) (needs counts : List ℕ) → AreLegalFront last high needs (legal_front last high needs counts)
front-self last high [] counts = tt
front-self last high (n ∷ needs) [] = tt
front-self last high (n ∷ needs) (c ∷ counts) = elim (cases_Bool (is_legal last n high c)) [
  | inl legal ↦ let is = legal-is last n high c legal in rw legal (is.last_is, is.need_is, is.high_is, front-self c high needs counts)
  | inr illegal ↦ rw illegal tt
]

front-due : (low last high : ℕ) (needs counts : List ℕ) → AreLegalCounts low high needs needs → AreLegalFront low high needs (legal_front last high needs counts)
front-due low last high [] counts steady = tt
front-due low last high (n ∷ needs) [] steady = tt
front-due low last high (n ∷ needs) (c ∷ counts) steady = elim (cases_Bool (is_legal last n high c)) [
  | inl legal ↦ let is = legal-is last n high c legal in rw legal (omega (arith, steady.0, is.need_is), is.need_is, is.high_is, front-self c high needs counts)
  | inr illegal ↦ rw illegal tt
]

no-front : (low high : ℕ) (needs : List ℕ) → AreLegalFront low high needs []
no-front low high [] = tt
no-front low high (n ∷ needs) = tt

front_if-due : (whole : Bool) (low last high : ℕ) (needs counts : List ℕ) → AreLegalCounts low high needs needs → AreLegalFront low high needs (front_if whole last high needs counts)
front_if-due true low last high needs counts steady = front-due low last high needs counts steady
front_if-due false low last high needs counts steady = no-front low high needs

pub due-fronts : (whole : Bool) (low high : ℕ) (lasts : List ℕ) (ss : List Standing) (hss : List (List HandIn)) (css : List (List ℕ)) → length ss ≡ length hss → AreSteady low high hss → AreDue low high ss hss (fronts_from whole lasts high (all_needs hss) css)
due-fronts whole low high lasts [] [] css same steady = tt
due-fronts whole low high lasts [] (hs ∷ hss) css same steady = absurd (omega (arith, same))
due-fronts whole low high lasts (s ∷ ss) [] css same steady = absurd (omega (arith, same))
due-fronts whole low high lasts (s ∷ ss) (hs ∷ hss) css same steady = (
  front_if-due whole low (first_last lasts) high (needs_of hs) (first_counts css) steady.0,
  due-fronts (whole && (length (front_if whole (first_last lasts) high (needs_of hs) (first_counts css)) == length (needs_of hs))) low high (other_lasts lasts) ss hss (other_counts css) (omega (arith, same)) steady.1,
)

-- where each packet is counted they are legal
whole-on : (last high : ℕ) (needs counts : List ℕ) → length (legal_front last high needs counts) ≡ length needs → AreLegalCounts last high needs (legal_front last high needs counts)
whole-on last high [] counts whole = tt
whole-on last high (n ∷ needs) [] whole = absurd (omega (arith, whole))
whole-on last high (n ∷ needs) (c ∷ counts) whole = elim (cases_Bool (is_legal last n high c)) [
  | inl legal ↦
      let is = legal-is last n high c legal in
      let more : length (legal_front c high needs counts) ≡ length needs = omega (arith, rw legal at whole) in
      rw legal (is.last_is, is.need_is, is.high_is, whole-on c high needs counts more)
  | inr illegal ↦ absurd (let none : 0 ≡ suc (length needs) = rw illegal at whole in omega (arith, none))
]

pub legal-whole : (high : ℕ) (lasts : List ℕ) (needs css : List (List ℕ)) → are_whole needs (fronts_from true lasts high needs css) ≡ true → AreLegalFrom lasts high needs (fronts_from true lasts high needs css)
legal-whole high lasts [] css whole = tt
legal-whole high lasts (n ∷ needs) css whole =
    let front = legal_front (first_last lasts) high n (first_counts css) in
    let both = and_parts (length front == length n) (are_whole needs (fronts_from (length front == length n) (other_lasts lasts) high needs (other_counts css))) whole in
    let first : (length front == length n) ≡ true = both.0 in
    let same : length front ≡ length n = grind (arith, nat_tests, first) in
    (whole-on (first_last lasts) high n (first_counts css) same, rw first (legal-whole high (other_lasts lasts) needs (other_counts css) (rw first at both.1)))

-- the last counts with one processor more
pub lasts-set : (xs : List ℕ) (css : List (List ℕ)) (k : ℕ) (cs : List ℕ) → slice_get css k ≡ Some cs → k < length (lasts_of xs (take k css)) → lasts_of xs (take (suc k) css) ≡ slice_set (lasts_of xs (take k css)) k (last_of (get_or (lasts_of xs (take k css)) k 0) cs)
lasts-set xs [] k cs here below = absurd cc
lasts-set [] (d ∷ css) zero cs here below = absurd (omega arith)
lasts-set (x ∷ xs) (d ∷ css) zero cs here below = let is : d ≡ cs = cc in rw is refl
lasts-set xs (d ∷ css) (suc k) cs here below =
    ap (λ ls. last_of (first_last xs) d ∷ ls) (lasts-set (other_lasts xs) css k cs here (omega (arith, below)))

pub lasts-push : (xs : List ℕ) (css : List (List ℕ)) (k : ℕ) (cs : List ℕ) → slice_get css k ≡ Some cs → length (lasts_of xs (take k css)) ≤ k → lasts_of xs (take (suc k) css) ≡ lasts_of xs (take k css) ++ last_of 0 cs ∷ []
lasts-push xs [] k cs here past = absurd cc
lasts-push [] (d ∷ css) zero cs here past = let is : d ≡ cs = cc in rw is refl
lasts-push (x ∷ xs) (d ∷ css) zero cs here past = absurd (omega (arith, past))
lasts-push xs (d ∷ css) (suc k) cs here past =
    ap (λ ls. last_of (first_last xs) d ∷ ls) (lasts-push (other_lasts xs) css k cs here (omega (arith, past)))

pub set-as : (xs : List ℕ) (css : List (List ℕ)) (k : ℕ) (cs before now : List ℕ) (last value : ℕ) → before ≡ lasts_of xs (take k css) → slice_get css k ≡ Some cs → k < length before → slice_get before k ≡ Some last → value ≡ last_of last cs → now ≡ slice_set before k value → now ≡ lasts_of xs (take (k + 1) css)
set-as xs css k cs before now last value was here below at is goes =
    let next : k + 1 ≡ suc k = omega arith in
    let held : get_or before k 0 ≡ last = get_or_from_slice_get before k last 0 at in
    goes ∙ (ap (slice_set before k) (is ∙ ap (λ l. last_of l cs) (sym held))
    ∙ (ap (λ b. slice_set b k (last_of (get_or b k 0) cs)) was ∙ (sym (lasts-set xs css k cs here (rw was at below)) ∙ ap (λ n. lasts_of xs (take n css)) (sym next))))

pub push-as : (xs : List ℕ) (css : List (List ℕ)) (k : ℕ) (cs before now : List ℕ) (value : ℕ) → before ≡ lasts_of xs (take k css) → slice_get css k ≡ Some cs → length before ≤ k → value ≡ last_of 0 cs → now ≡ before ++ value ∷ [] → now ≡ lasts_of xs (take (k + 1) css)
push-as xs css k cs before now value was here past is goes =
    let next : k + 1 ≡ suc k = omega arith in
    goes ∙ (ap (λ v. before ++ v ∷ []) is ∙ (ap (λ b. b ++ last_of 0 cs ∷ []) was
    ∙ (sym (lasts-push xs css k cs here (rw was at past)) ∙ ap (λ n. lasts_of xs (take n css)) (sym next))))

-- what stands at a place, or nothing
pub index-is : (xs : List (List (List ℕ))) (k : ℕ) (x : List (List ℕ)) → slice_get xs k ≡ Some x → x ≡ slice_index_or xs k []
index-is [] k x here = absurd cc
index-is (y ∷ xs) zero x here = let is : y ≡ x = cc in sym is
index-is (y ∷ xs) (suc k) x here = index-is xs k x here

pub index-none : (xs : List (List (List ℕ))) (k : ℕ) → length xs ≤ k → [] ≡ slice_index_or xs k []
index-none [] zero past = refl
index-none [] (suc k) past = refl
index-none (y ∷ xs) zero past = absurd (omega (arith, past))
index-none (y ∷ xs) (suc k) past = index-none xs k (omega (arith, past))

-- the last count is at the last place
pub last-none : (before many : ℕ) (counts : List ℕ) → many ≡ length counts → many ≡ 0 → before ≡ last_of before counts
last-none before many [] same none = refl
last-none before many (c ∷ counts) same none = absurd (omega (arith, same, none))

pub last-at : (before many count : ℕ) (counts : List ℕ) → many ≡ length counts → slice_get counts (many - 1) ≡ Some count → count ≡ last_of before counts
last-at before many count [] same here = absurd cc
last-at before many count (c ∷ []) same here =
    let one : many - 1 ≡ 0 = omega (arith, same) in
    let is : Some c ≡ Some count = rw one at here in cc
last-at before many count (c ∷ d ∷ counts) same here =
    let more : many - 1 ≡ suc (many - 1 - 1) = omega (arith, same) in
    last-at c (many - 1) count (d ∷ counts) (omega (arith, same)) (rw more at here)

pub ruleset ends = (last-none, last-at)
