-- The keys of a capture: what is known stays known, and is written by its first packet.
use Rattle.std.proofs.Common.{◌≡◌, ℕ, ◌+◌, ◌<◌, ◌≤◌, suc, Bool, true, false, IsTrue, ◌&&◌, ◌||◌, List, [], ◌∷◌, ◌++◌, length, take, drop, get_or, Option, Some, None, refl, sym, ap, subst, ◌∙◌, append-nil, arith, ◌⊎◌, inl, inr}
use Rattle.std.proofs.lemmas.Bool.{and_from, and_parts, cases_Bool, cases_lt, cond-false, cond-true, eq-eqb, eqb-true, ltb-false, or_cases, or_from, or_left, or_right, true≢false}
use Rattle.std.proofs.lemmas.List.{drop_all, take_all}
use Rattle.std.proofs.lemmas.List.Folds.{list_any-append, list_any_none}
use Rattle.std.proofs.lemmas.List.Quantifiers.{position-Some}
use Rattle.std.proofs.lemmas.List.Sums.{fails_before_first, passes_at_first, split_at_first}
use Rattle.std.proofs.lemmas.Slice.Eq.{bytes_eq-Decides}
use Rattle.std.specs.Prelude.{All, is_some, nat_lt, position, unwrap_or}
use Rattle.std.specs.Bool.{beq}
use Rattle.std.specs.List.{list_any, position_or_len, remove}
use Rattle.std.specs.Str.{bytes_eq}
use Rattle.dump_capture.specs.Key.{is_key_of, key_of}
use Rattle.dump_capture.specs.Keys.{Keys, has_key, is_known, number_of, shown, shown_at, with_key, without}
use Rattle.dump_capture.specs.Capture.{keys_after, keys_at}
use Rattle.dump_capture.specs.Point.{PlainPoint}
use Rattle.dump_capture.specs.declared.key.Key.{Key}

beq-same : (a b : Bool) → beq a b ≡ true → a ≡ b
beq-same true true e = refl
beq-same false false e = refl
beq-same true false e = absurd (true≢false (sym e))
beq-same false true e = absurd (true≢false (sym e))

beq-own : (a : Bool) → beq a a ≡ true
beq-own true = refl
beq-own false = refl

-- a key that is a point's is the one that it has
pub key-is : (point : PlainPoint) (key : Key) → is_key_of point key ≡ true → key ≡ key_of point
unfolding is_key_of
key-is point key is =
    let last = and_parts _ _ is in
    let third = and_parts _ _ last.0 in
    let second = and_parts _ _ third.0 in
    rw (eqb-true key.snap point.snap second.0, beq-same key.exit point.exit second.1, (bytes_eq-Decides key.interface point.interface).0 third.1, (bytes_eq-Decides key.name point.name).0 last.1) refl

pub key-own : (point : PlainPoint) → is_key_of point (key_of point) ≡ true
unfolding is_key_of
key-own point =
    and_from _ _ (and_from _ _ (and_from _ _ (eq-eqb point.snap point.snap refl) (beq-own point.exit)) ((bytes_eq-Decides point.interface point.interface).1 refl))
    ((bytes_eq-Decides point.name point.name).1 refl)

pub has-pushed : (keys : List Key) (key : Key) (point : PlainPoint) → has_key (keys ++ key ∷ []) point ≡ (has_key keys point || (is_key_of point key || false))
unfolding has_key
has-pushed keys key point = list_any-append (is_key_of point) keys (key ∷ [])

-- a key is pushed, and it is there
pub has-own : (keys : List Key) (point : PlainPoint) → has_key (keys ++ key_of point ∷ []) point ≡ true
has-own keys point =
    has-pushed keys (key_of point) point ∙ or_right (has_key keys point) (is_key_of point (key_of point) || false) (or_left (is_key_of point (key_of point)) false (key-own point))

pub has-kept : (keys : List Key) (key : Key) (point : PlainPoint) → has_key keys point ≡ true → has_key (keys ++ key ∷ []) point ≡ true
has-kept keys key point has = has-pushed keys key point ∙ or_left (has_key keys point) (is_key_of point key || false) has

-- of keys in front of a place, at it and behind it
any-split : (test : Key → Bool) (before : List Key) (key : Key) (after : List Key) → list_any test (before ++ (key ∷ after)) ≡ true
    → (list_any test (before ++ after) ≡ true) ⊎ (test key ≡ true)
any-split test before key after has = elim (or_cases (list_any test before) (test key || list_any test after) (sym (list_any-append test before (key ∷ after)) ∙ has)) [
  | inl front ↦ inl (list_any-append test before after ∙ or_left (list_any test before) (list_any test after) front)
  | inr behind ↦ elim (or_cases (test key) (list_any test after) behind) [
    | inl here ↦ inr here
    | inr there ↦ inl (list_any-append test before after ∙ or_right (list_any test before) (list_any test after) there)
  ]
]

-- a key that leaves those that wait is that of the point
without-key : (point other : PlainPoint) (keys : List Key) → has_key keys other ≡ true → (has_key (without point keys) other ≡ true) ⊎ (is_key_of other (key_of point) ≡ true)
unfolding has_key without
without-key point other keys has = elim (cases_lt (position_or_len (is_key_of point) keys) (length keys)) [
  | inl there ↦
      let place = position_or_len (is_key_of point) keys in
      let key = get_or keys place (key_of point) in
      let next : place + 1 ≡ suc place = omega arith in
      let split = split_at_first (is_key_of point) keys (key_of point) there in
      let same : key ≡ key_of point = key-is point key (passes_at_first (is_key_of point) keys (key_of point) there) in
      elim (any-split (is_key_of other) (take place keys) key (drop (place + 1) keys) (ap (list_any (is_key_of other)) (sym split) ∙ has)) [
        | inl left ↦ inl (ap (λ n. list_any (is_key_of other) (take place keys ++ drop n keys)) (sym next) ∙ left)
        | inr own ↦ inr (ap (is_key_of other) (sym same) ∙ own)
      ]
  | inr past ↦
      let place = position_or_len (is_key_of point) keys in
      let none : drop (suc place) keys ≡ [] = drop_all (suc place) keys (omega (arith, past)) in
      let all : take place keys ≡ keys = take_all place keys past in
      inl (ap (list_any (is_key_of other)) (ap (λ xs. take place keys ++ xs) none ∙ (append-nil (take place keys) ∙ all)) ∙ has)
]

fails-all : (test : Key → Bool) (keys : List Key) → position test keys ≡ None → All (λ key. test key ≡ false) keys
fails-all test keys none place default within =
    let past : length keys ≤ position_or_len test keys = elim (cases_Bool (nat_lt (position_or_len test keys) (length keys))) [
      | inl there ↦ absurd (true≢false (ap is_some (sym (cond-true (nat_lt (position_or_len test keys) (length keys)) (Some (position_or_len test keys)) None there) ∙ none)))
      | inr past ↦ ltb-false (position_or_len test keys) (length keys) past
    ] in
    fails_before_first test keys place default (omega (arith, within, past))

-- without a place for it the key of a point isn't there
pub number-none : (keys : List Key) (point : PlainPoint) → number_of keys point ≡ None → has_key keys point ≡ false
unfolding has_key
number-none keys point none = list_any_none (is_key_of point) keys (fails-all (is_key_of point) keys none)

-- the key of a point is there once it is made
pub with_key-known : (keys : Keys) (point : PlainPoint) → IsTrue (is_known (with_key keys point) point)
unfolding with_key
with_key-known keys point = elim (cases_Bool (is_known keys point)) [
  | inl known ↦ rw known known
  | inr unknown ↦ rw unknown (or_right (has_key keys.written point) _ (has-own keys.waiting point))
]

-- and any other that was there
pub with_key-keeps : (keys : Keys) (point other : PlainPoint) → IsTrue (is_known keys other) → IsTrue (is_known (with_key keys point) other)
unfolding with_key
with_key-keeps keys point other known = elim (cases_Bool (is_known keys point)) [
  | inl there ↦ rw there known
  | inr unknown ↦ rw unknown (elim (or_cases (has_key keys.written other) (has_key keys.waiting other) known) [
    | inl written ↦ or_left (has_key keys.written other) _ written
    | inr waiting ↦ or_right (has_key keys.written other) _ (has-kept keys.waiting (key_of point) other waiting)
  ])
]

-- making a key writes none
pub with_key-written : (keys : Keys) (point : PlainPoint) → (with_key keys point).written ≡ keys.written
unfolding with_key
with_key-written keys point = elim (cases_Bool (is_known keys point)) [ inl known ↦ rw known refl | inr unknown ↦ rw unknown refl ]

-- the blocks of a point write its key, and nothing that was known is lost
pub shown-written : (keys : Keys) (point : PlainPoint) → (shown keys point).written ≡ keys_after keys.written point
unfolding shown keys_after
shown-written keys point = by_number (number_of keys.written point)
  where
    by_number : (number : Option ℕ) → (shown_at keys point number).written ≡ keys_at keys.written point number
    by_number (Some number) = refl
    by_number None = refl

pub shown-keeps : (keys : Keys) (point other : PlainPoint) → IsTrue (is_known keys other) → IsTrue (is_known (shown keys point) other)
unfolding shown
shown-keeps keys point other known = by_number (number_of keys.written point)
  where
    by_number : (number : Option ℕ) → IsTrue (is_known (shown_at keys point number) other)
    by_number (Some number) = known
    by_number None = elim (or_cases (has_key keys.written other) (has_key keys.waiting other) known) [
      | inl written ↦ or_left (has_key (keys.written ++ key_of point ∷ []) other) _ (has-kept keys.written (key_of point) other written)
      | inr waiting ↦ elim (without-key point other keys.waiting waiting) [
        | inl left ↦ or_right (has_key (keys.written ++ key_of point ∷ []) other) _ left
        | inr own ↦ or_left (has_key (keys.written ++ key_of point ∷ []) other) _ (has-pushed keys.written (key_of point) other
            ∙ or_right (has_key keys.written other) (is_key_of other (key_of point) || false) (or_left (is_key_of other (key_of point)) false own))
      ]
    ]

-- a key that waits has a place
pub not_known : (keys : Keys) (point : PlainPoint) → number_of keys.written point ≡ None → number_of keys.waiting point ≡ None → IsTrue (is_known keys point) → ⊥
not_known keys point unwritten not_waiting known =
    true≢false (sym known ∙ or_from (has_key keys.written point) (has_key keys.waiting point) (number-none keys.written point unwritten) (number-none keys.waiting point not_waiting))

-- the place that was found is the first one
first-place : (test : Key → Bool) (keys : List Key) (place : ℕ) → position test keys ≡ Some place → position_or_len test keys ≡ place
first-place test keys place found = elim (cases_Bool (nat_lt (position_or_len test keys) (length keys))) [
  | inl there ↦ ap (λ o. unwrap_or o 0) (sym (cond-true (nat_lt (position_or_len test keys) (length keys)) (Some (position_or_len test keys)) None there) ∙ found)
  | inr past ↦ absurd (true≢false (sym (ap is_some (sym (cond-false (nat_lt (position_or_len test keys) (length keys)) (Some (position_or_len test keys)) None past) ∙ found))))
]

-- the key of a point goes from those that wait to those that are written
pub shown-moved : (keys : Keys) (point : PlainPoint) (place : ℕ) (key : Key) (written waiting : List Key) → number_of keys.written point ≡ None → number_of keys.waiting point ≡ Some place
    → key ≡ get_or keys.waiting place key → written ≡ keys.written ++ key ∷ [] → waiting ≡ remove keys.waiting place
    → (let moved : Keys = record { written = written; waiting = waiting } in moved) ≡ shown keys point
unfolding shown without
shown-moved keys point place key written waiting unwritten found is_key now left =
    let passes : is_key_of point key ≡ true = ap (is_key_of point) is_key ∙ (position-Some (is_key_of point) keys.waiting place key found).1 in
    let first = first-place (is_key_of point) keys.waiting place found in
    rw (unwritten, first, now, left, key-is point key passes) refl
