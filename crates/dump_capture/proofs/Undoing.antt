-- A key that is made and then written, or taken back.
use Rattle.std.proofs.Common.{◌≡◌, ℕ, ◌+◌, ◌-◌, ◌<◌, ◌≤◌, suc, Bool, true, false, IsTrue, ◌||◌, not, List, [], ◌∷◌, ◌++◌, length, take, drop, Some, None, refl, sym, ap, subst, ◌∙◌, append-nil, arith, inl, inr, if◌then◌else◌, cond, eqb}
use Rattle.std.proofs.lemmas.Bool.{cases_Bool, cases_lt, cond-true, eq-eqb, not-true, or_parts, true≢false}
use Rattle.std.proofs.lemmas.List.{drop_all, length-append, take_all}
use Rattle.std.proofs.lemmas.List.Folds.{list_any_at, position_or_len_push}
use Rattle.std.proofs.lemmas.List.Sums.{passes_at_first, prefix_len-le-length}
use Rattle.std.proofs.Math.Seq.{take-append_seam}
use Rattle.std.specs.List.{list_any, position_or_len, remove}
use Rattle.dump_capture.specs.Key.{is_key_of, key_of}
use Rattle.dump_capture.specs.Keys.{Keys, has_key, is_known, number_of, shown, with_key, without}
use Rattle.dump_capture.specs.Point.{PlainPoint}
use Rattle.dump_capture.specs.declared.key.Key.{Key}
use Rattle.dump_capture.proofs.Knowing.{key-own}

pub with_key-same : (keys : Keys) (point : PlainPoint) → is_known keys point ≡ true → with_key keys point ≡ keys
unfolding with_key
with_key-same keys point known = rw known refl

pub with_key-new : (keys : Keys) (point : PlainPoint) → is_known keys point ≡ false → with_key keys point ≡ record keys { waiting = keys.waiting ++ key_of point ∷ [] }
unfolding with_key
with_key-new keys point unknown = rw unknown refl

-- a key that isn't there has its place at the end
place-none : (keys : List Key) (point : PlainPoint) → has_key keys point ≡ false → position_or_len (is_key_of point) keys ≡ length keys
unfolding has_key
place-none keys point none = elim (cases_lt (position_or_len (is_key_of point) keys) (length keys)) [
  | inl there ↦
      let place = position_or_len (is_key_of point) keys in
      absurd (true≢false (sym (list_any_at (is_key_of point) keys place (key_of point) there (passes_at_first (is_key_of point) keys (key_of point) there)) ∙ none))
  | inr past ↦ omega (arith, past, prefix_len-le-length (λ (key : Key). not (is_key_of point key)) keys)
]

without-last : (keys : List Key) (point : PlainPoint) → has_key keys point ≡ false → without point (keys ++ key_of point ∷ []) ≡ keys
unfolding without
without-last keys point none =
    let key = key_of point in
    let count = length keys in
    let at_end : position_or_len (is_key_of point) (keys ++ key ∷ []) ≡ count =
    position_or_len_push (is_key_of point) keys key
    ∙ (rw (place-none keys point none, eq-eqb count count refl, key-own point) (let whole : count + 0 ≡ count = omega arith in whole)) in
    let rest : drop (suc count) (keys ++ key ∷ []) ≡ [] = drop_all (suc count) (keys ++ key ∷ []) (omega (arith, length-append keys (key ∷ []))) in
    rw at_end (ap (λ xs. take count (keys ++ key ∷ []) ++ xs) rest ∙ (append-nil (take count (keys ++ key ∷ [])) ∙ take-append_seam keys (key ∷ [])))

without-none : (keys : List Key) (point : PlainPoint) → has_key keys point ≡ false → without point keys ≡ keys
unfolding without
without-none keys point none =
    let count = length keys in
    rw (place-none keys point none)
    (ap (λ xs. take count keys ++ xs) (drop_all (suc count) keys (omega arith)) ∙ (append-nil (take count keys) ∙ take_all count keys (omega arith)))

shown-new : (keys : Keys) (point : PlainPoint) → number_of keys.written point ≡ None → has_key keys.waiting point ≡ false
    → shown (record keys { waiting = keys.waiting ++ key_of point ∷ [] }) point ≡ shown keys point
unfolding shown
shown-new keys point unwritten none = rw (unwritten, without-last keys.waiting point none, without-none keys.waiting point none) refl

-- to make a key and write it is to write it
pub shown-with_key : (keys : Keys) (point : PlainPoint) → number_of keys.written point ≡ None → shown (with_key keys point) point ≡ shown keys point
shown-with_key keys point unwritten = elim (cases_Bool (is_known keys point)) [
  | inl known ↦ ap (λ (made : Keys). shown made point) (with_key-same keys point known)
  | inr unknown ↦
      ap (λ (made : Keys). shown made point) (with_key-new keys point unknown)
      ∙ shown-new keys point unwritten (or_parts (has_key keys.written point) (has_key keys.waiting point) unknown).1
]

-- a key that was made waits, and is taken back
pub made-waits : (keys : Keys) (point : PlainPoint) → is_known keys point ≡ false → 0 < length (with_key keys point).waiting
made-waits keys point unknown =
    omega (arith, ap (λ (made : Keys). length made.waiting) (with_key-new keys point unknown), length-append keys.waiting (key_of point ∷ []))

pub made-forgotten : (keys : Keys) (point : PlainPoint) → is_known keys point ≡ false
    → record (with_key keys point) { waiting = take (length (with_key keys point).waiting - 1) (with_key keys point).waiting } ≡ keys
made-forgotten keys point unknown =
    let last : length (keys.waiting ++ key_of point ∷ []) - 1 ≡ length keys.waiting = omega (arith, length-append keys.waiting (key_of point ∷ [])) in
    rw (with_key-new keys point unknown, last, take-append_seam keys.waiting (key_of point ∷ [])) refl
