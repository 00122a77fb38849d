-- Parts of a buffer, and what a write leaves of them.
use Rattle.std.proofs.Common.{◌≡◌, ℕ, ◌+◌, ◌-◌, ◌*◌, ◌<◌, ◌≤◌, ◌⊎◌, inl, inr, List, length, drop, slice_index, sym, ◌∙◌, arith}
use Rattle.std.proofs.lemmas.Bool.{cases_order}
use Rattle.std.proofs.lemmas.Grind.{same_number_lists}
use Rattle.std.proofs.lemmas.List.{get_or-take, get_or-drop, length-take-le, length-drop}
use Rattle.std.proofs.lemmas.Nat.{row_fits}
use Rattle.flat_memory.specs.Numbers.{with_bytes}
use Rattle.flat_memory.proofs.Bytes.{length-with_bytes}
use Rattle.flat_memory.proofs.Laws.{index_here, index_elsewhere, cases_range}
use Rattle.map_store.specs.SlotsView.{part}

pub length-part : (size step : ℕ) (bytes : List ℕ) (place : ℕ) → place * step + size ≤ length bytes → length (part size step bytes place) ≡ size
unfolding part
length-part size step bytes place fits = length-take-le size (drop (place * step) bytes) (omega (arith, length-drop (place * step) bytes))

pub index-part : (size step : ℕ) (bytes : List ℕ) (place i : ℕ) → i < size → slice_index (part size step bytes place) i ≡ slice_index bytes (place * step + i)
unfolding part
index-part size step bytes place i below = get_or-take size (drop (place * step) bytes) i 0 below ∙ get_or-drop (place * step) bytes i 0

-- parts are equal where their bytes are
pub part-same : (size step : ℕ) (xs ys : List ℕ) (place : ℕ) → place * step + size ≤ length xs → length xs ≡ length ys → ((i : ℕ) → i < size → slice_index xs (place * step + i) ≡ slice_index ys (place * step + i))
    → part size step xs place ≡ part size step ys place
part-same size step xs ys place fits long same =
    let lx : length (part size step xs place) ≡ size = length-part size step xs place fits in
    let ly : length (part size step ys place) ≡ size = length-part size step ys place (omega arith) in
    same_number_lists (part size step xs place) (part size step ys place) (lx ∙ sym ly) (λ k below.
    let inside : k < size = omega arith in
    index-part size step xs place k inside ∙ same k inside ∙ sym (index-part size step ys place k inside))

-- a write in the room of one place leaves the parts at other places
pub part-elsewhere : (size step : ℕ) (bytes others : List ℕ) (place start other n : ℕ) → other < n → place < n → n * step ≤ length bytes → size ≤ step
    → place * step ≤ start → start + length others ≤ place * step + step → (other ≡ place → ⊥)
    → part size step (with_bytes bytes start others) other ≡ part size step bytes other
part-elsewhere size step bytes others place start other n below inside room small from to apart =
    let fits : other * step + step ≤ n * step = row_fits other step n step below (omega arith) in
    let fits' : place * step + step ≤ n * step = row_fits place step n step inside (omega arith) in
    let written : start + length others ≤ length bytes = omega arith in
    let long : length (with_bytes bytes start others) ≡ length bytes = length-with_bytes bytes start others written in
    part-same size step (with_bytes bytes start others) bytes other (omega arith) long (λ i within.
    index_elsewhere bytes others start (other * step + i) written (outside other place step i start (length others) (omega arith) from to apart) (omega arith))
  where
    outside : (other place step i start n : ℕ) → i < step → place * step ≤ start → start + n ≤ place * step + step → (other ≡ place → ⊥) → (other * step + i < start) ⊎ (start + n ≤ other * step + i)
    outside other place step i start n small from to apart = elim (cases_order other place) [
      | inl same ↦ absurd (apart same)
      | inr differs ↦ elim differs [
        | inl before ↦ let room : other * step + step ≤ place * step = row_fits other step place step before (omega arith) in inl (omega arith)
        | inr behind ↦ let room : place * step + step ≤ other * step = row_fits place step other step behind (omega arith) in inr (omega arith)
      ]
    ]

-- a whole part written, and bytes written inside one
pub part-here : (size step : ℕ) (bytes others : List ℕ) (place : ℕ) → place * step + size ≤ length bytes → length others ≡ size → part size step (with_bytes bytes (place * step) others) place ≡ others
part-here size step bytes others place fits long =
    let written : place * step + length others ≤ length bytes = omega arith in
    let same : length (with_bytes bytes (place * step) others) ≡ length bytes = length-with_bytes bytes (place * step) others written in
    let lp : length (part size step (with_bytes bytes (place * step) others) place) ≡ size = length-part size step (with_bytes bytes (place * step) others) place (omega arith) in
    same_number_lists (part size step (with_bytes bytes (place * step) others) place) others (lp ∙ sym long) (λ k below.
    index-part size step (with_bytes bytes (place * step) others) place k (omega arith) ∙ index_here bytes others (place * step) k written (omega arith))

pub part-inside : (size step : ℕ) (bytes others : List ℕ) (place byte : ℕ) → place * step + size ≤ length bytes → byte + length others ≤ size
    → part size step (with_bytes bytes (place * step + byte) others) place ≡ with_bytes (part size step bytes place) byte others
part-inside size step bytes others place byte fits small =
    let written : place * step + byte + length others ≤ length bytes = omega arith in
    let same : length (with_bytes bytes (place * step + byte) others) ≡ length bytes = length-with_bytes bytes (place * step + byte) others written in
    let lb : length (part size step bytes place) ≡ size = length-part size step bytes place fits in
    let lp : length (part size step (with_bytes bytes (place * step + byte) others) place) ≡ size = length-part size step (with_bytes bytes (place * step + byte) others) place (omega arith) in
    let lw : length (with_bytes (part size step bytes place) byte others) ≡ size = length-with_bytes (part size step bytes place) byte others (omega arith) ∙ lb in
    same_number_lists (part size step (with_bytes bytes (place * step + byte) others) place) (with_bytes (part size step bytes place) byte others) (lp ∙ sym lw) (λ k below.
    let inside : k < size = omega arith in
    index-part size step (with_bytes bytes (place * step + byte) others) place k inside
    ∙ elim (cases_range k byte (length others)) [
      | inl apart ↦
          index_elsewhere bytes others (place * step + byte) (place * step + k) written (elim apart [ inl before ↦ inl (omega arith) | inr behind ↦ inr (omega arith) ]) (omega arith)
          ∙ sym (index-part size step bytes place k inside)
          ∙ sym (index_elsewhere (part size step bytes place) others byte k (omega arith) apart (omega arith))
      | inr within ↦
          let off : place * step + byte + (k - byte) ≡ place * step + k = omega arith in
          let off' : byte + (k - byte) ≡ k = omega arith in
          (rw off at (index_here bytes others (place * step + byte) (k - byte) written (omega arith)))
          ∙ sym (rw off' at (index_here (part size step bytes place) others byte (k - byte) (omega arith) (omega arith)))
    ])
