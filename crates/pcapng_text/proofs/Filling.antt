-- Bytes of a source behind what was there.
use Rattle.std.proofs.Common.{◌≡◌, IsTrue, Bool, ℕ, ◌+◌, ◌<◌, ◌≤◌, List, [], ◌++◌, length, take, drop, refl, sym, ◌∙◌, ap, append_assoc, arith}
use Rattle.std.proofs.lemmas.Grind.{common_steps}
use Rattle.std.proofs.lemmas.List.{append-nil, drop_at, take_at, take_all, drop_all}
use Rattle.pcapng_text.specs.Buffer.{TakesFront}

pub record Filled (tells : Bool) (old bytes rest rest' : List ℕ) : Type 0 where
  pub taken : List ℕ
  pub put : bytes ≡ old ++ taken
  pub left : IsTrue tells → rest ≡ taken ++ rest'

pub filled_none : (tells : Bool) (old rest : List ℕ) → Filled tells old old rest rest
filled_none tells old rest = record { taken = []; put = sym (append-nil old); left = λ told. refl }

-- one more piece
pub filled_more : {tells : Bool} {old bytes rest rest' : List ℕ} (piece rest'' : List ℕ) → Filled tells old bytes rest rest' → (IsTrue tells → rest' ≡ piece ++ rest'') → Filled tells old (bytes ++ piece) rest rest''
filled_more {old} piece rest'' filled more = record {
  taken = filled.taken ++ piece;
  put = ap (λ xs. xs ++ piece) filled.put ∙ append_assoc old filled.taken piece;
  left = λ told. filled.left told ∙ ap (λ xs. filled.taken ++ xs) (more told) ∙ sym (append_assoc filled.taken piece rest'');
}

-- nothing was lost
pub filled-all : {tells : Bool} {old bytes rest rest' : List ℕ} → Filled tells old bytes rest rest' → IsTrue tells → old ++ rest ≡ bytes ++ rest'
filled-all {old} filled told = rw (filled.put, filled.left told) (sym (append_assoc old filled.taken _))

pub filled-front : {tells : Bool} {old bytes rest rest' : List ℕ} → Filled tells old bytes rest rest' → IsTrue tells → TakesFront rest rest'
filled-front filled told = record { taken = filled.taken; left = filled.left told }

-- all of so many bytes have come
pub filled_whole : {tells : Bool} {old bytes rest rest' : List ℕ} (size : ℕ) → Filled tells old bytes rest rest' → length bytes ≡ size → IsTrue tells → (bytes ≡ take size (old ++ rest)) × (rest' ≡ drop size (old ++ rest))
filled_whole {bytes} {rest'} size filled whole told =
    let all = filled-all filled told in
    (rw all (sym (take_at bytes rest' size whole)), rw all (sym (drop_at bytes rest' size whole)))

-- or the source has ended before
pub filled_short : {tells : Bool} {old bytes rest rest' : List ℕ} (size : ℕ) → Filled tells old bytes rest rest' → length bytes ≤ size → (IsTrue tells → rest' ≡ []) → IsTrue tells → (bytes ≡ take size (old ++ rest)) × (rest' ≡ drop size (old ++ rest))
filled_short {bytes} {rest'} size filled short none told =
    let all = filled-all filled told in
    let ended : bytes ++ rest' ≡ bytes = ap (λ xs. bytes ++ xs) (none told) ∙ append-nil bytes in
    (rw (all, ended) (sym (take_all size bytes short)), rw (all, ended) (none told ∙ sym (drop_all size bytes short)))
