-- The keys of an array.
use Rattle.std.proofs.Common.{◌≡◌, ℕ, ◌<◌, ◌≤◌, false, nat_eq, List, [], ◌++◌, length, get_or, sym, ap, ◌∙◌, arith}
use Rattle.std.proofs.lemmas.Bool.{false_from_ne_true}
use Rattle.std.proofs.lemmas.List.{append-nil}
use Rattle.std.proofs.lemmas.Nat.{le_bytes_4}
use Rattle.std.proofs.lemmas.Slice.Eq.{bytes_eq-Decides}
use Rattle.std.specs.Cmp.Lexicographic.{pointwise}
use Rattle.byteorder.specs.Endian.{little_from, little_bytes}
use Rattle.byteorder.specs.Numbers.{little_number-reads_back}
use Rattle.flat_memory.specs.Numbers.{number_in}
use Rattle.map_store.specs.SlotsView.{IsFirstPlace}

-- 4 bytes are those of their number, and of no other
bytes_of_number : (key : List ℕ) → length key ≡ 4 → ((i : ℕ) → get_or key i 0 < 256) → little_bytes 4 (number_in key 0 4) ≡ key
unfolding number_in
bytes_of_number key size small = le_bytes_4 key (little_from 0 4 key) size small (omega arith)

number_of_bytes : (key : List ℕ) (place : ℕ) → place < 4294967296 → little_bytes 4 place ≡ key → number_in key 0 4 ≡ place
unfolding number_in
number_of_bytes key place small is =
    let read : little_from 0 4 (little_bytes 4 place ++ []) ≡ place = little_number-reads_back 4 place [] small in
    rw (← is) (ap (little_from 0 4) (sym (append-nil (little_bytes 4 place))) ∙ read)

pub index_found : (key : List ℕ) (count place : ℕ) → length key ≡ 4 → ((i : ℕ) → get_or key i 0 < 256) → count < 4294967296 → place ≡ number_in key 0 4 → place < count → IsFirstPlace (λ k. pointwise nat_eq (little_bytes 4 k) key) count place
index_found key count place size small few is within = record {
  within = within;
  found = (bytes_eq-Decides (little_bytes 4 place) key).1 (rw is (bytes_of_number key size small));
  first = λ k below. false_from_ne_true _ (λ same.
      let e : number_in key 0 4 ≡ k = number_of_bytes key k (omega arith) ((bytes_eq-Decides (little_bytes 4 k) key).0 same) in
      omega arith);
}

pub index_absent : (key : List ℕ) (count place : ℕ) → count < 4294967296 → place ≡ number_in key 0 4 → count ≤ place → (k : ℕ) → k < count → pointwise nat_eq (little_bytes 4 k) key ≡ false
index_absent key count place few is past k below = false_from_ne_true _ (λ same.
    let e : number_in key 0 4 ≡ k = number_of_bytes key k (omega arith) ((bytes_eq-Decides (little_bytes 4 k) key).0 same) in
    omega arith)
