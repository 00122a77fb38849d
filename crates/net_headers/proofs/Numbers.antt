-- What a list has at a place, where bytes are put behind it or in front of it.
use Rattle.std.proofs.Common.{◌≡◌, ℕ, zero, suc, ◌+◌, ◌-◌, ◌≤◌, List, ◌++◌, length, drop, arith, refl, ◌∙◌, ap}
use Rattle.std.proofs.lemmas.List.{get_or_append_left, get_or-append_right}
use Rattle.std.proofs.Math.Seq.{drop-append-add}
use Rattle.net_headers.specs.Bytes.{number_at}

pub number_at-append : (bytes more : List ℕ) (place size : ℕ) → place + size ≤ length bytes
    → number_at (bytes ++ more) place size ≡ number_at bytes place size
unfolding number_at
number_at-append bytes more place zero within = refl
number_at-append bytes more place (suc size) within =
    rw (
      number_at-append bytes more place size (omega arith),
      get_or_append_left bytes more 0 (place + size) (omega arith),
    )

pub number_at-behind : (front bytes : List ℕ) (place size : ℕ) → length front ≤ place
    → number_at (front ++ bytes) place size ≡ number_at bytes (place - length front) size
unfolding number_at
number_at-behind front bytes place zero behind = refl
number_at-behind front bytes place (suc size) behind =
    let byte = get_or-append_right front bytes (length front) (place + size) 0 refl in
    grind (arith, number_at-behind front bytes place size behind, byte)

pub drop-behind : (front bytes : List ℕ) (place : ℕ) → length front ≤ place
    → drop place (front ++ bytes) ≡ drop (place - length front) bytes
drop-behind front bytes place behind =
    let e : place ≡ length front + (place - length front) = omega arith in
    ap (λ n. drop n (front ++ bytes)) e ∙ drop-append-add front bytes (place - length front)
