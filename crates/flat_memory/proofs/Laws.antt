-- What is true of memory.
use mathlib.Core.Path.{fun_ext}
use Rattle.std.proofs.Common.{◌&&◌, ◌≡◌, ℕ, zero, suc, ◌+◌, ◌-◌, ◌<◌, ◌≤◌, Bool, true, false, nat_le, List, ◌++◌, length, take, drop, get_or, slice_index, slice_get, Option, Some, None, unwrap_or, refl, ap, ◌∙◌, arith, ◌⊎◌, inl, inr, add-zero, add-suc, suc-add}
use Rattle.std.proofs.lemmas.Bool.{cases_lt}
use Rattle.std.proofs.lemmas.List.{get_or-append_right, get_or_append_left, get_or-take, get_or-drop, length-take-le}
use Rattle.std.proofs.lemmas.Bool.Decides.{nat_tests}
use Rattle.std.proofs.lemmas.Option.{gets}
use Rattle.std.proofs.Math.Seq.{drop-cons}
use Rattle.std.specs.Option.{option_or}
use Rattle.flat_memory.specs.Memory.{Memory, masked, block, overlaid, written, number_at, bytes_at}
use Rattle.flat_memory.specs.Numbers.{number_in, with_bytes}
use Rattle.flat_memory.proofs.Bytes.{length-with_bytes}

-- numbers are equal where their bytes are
pub number_at-same : (n a b : ℕ) (m w : Memory) → ((i : ℕ) → i < n → m (a + i) ≡ w (b + i)) → number_at m a n ≡ number_at w b n
unfolding number_at
number_at-same zero a b m w same = refl
number_at-same (suc n) a b m w same =
    let byte : m a ≡ w b = simp add-zero at (same 0 (omega arith)) in
    let next : (i : ℕ) → i < n → m (suc a + i) ≡ w (suc b + i) = λ i below. let more : suc i < suc n = omega arith in rw (suc-add a i, suc-add b i) (rw (add-suc a i, add-suc b i) at (same (suc i) more)) in
    let rest : number_at m (suc a) n ≡ number_at w (suc b) n = number_at-same n (suc a) (suc b) m w next in
    rw (byte, rest) refl

-- a memory's number where bytes stand one by one
pub number_at-bytes : (n a place : ℕ) (m : Memory) (bytes : List ℕ) → ((i : ℕ) → i < n → unwrap_or (m (a + i)) 0 ≡ slice_index bytes (place + i)) → number_at m a n ≡ number_in bytes place n
unfolding number_at number_in
number_at-bytes zero a place m bytes same = refl
number_at-bytes (suc n) a place m bytes same =
    let byte : unwrap_or (m a) 0 ≡ slice_index bytes place = simp add-zero at (same 0 (omega arith)) in
    let next : (i : ℕ) → i < n → unwrap_or (m (suc a + i)) 0 ≡ slice_index bytes (suc place + i) = λ i below. let more : suc i < suc n = omega arith in rw (suc-add a i, suc-add place i) (rw (add-suc a i, add-suc place i) at (same (suc i) more)) in
    let rest : number_at m (suc a) n ≡ number_in bytes (suc place) n = number_at-bytes n (suc a) (suc place) m bytes next in
    rw (byte, rest) refl

-- bytes are equal where they are one by one
pub bytes_at-same : (n a b : ℕ) (m w : Memory) → ((i : ℕ) → i < n → m (a + i) ≡ w (b + i)) → bytes_at m a n ≡ bytes_at w b n
unfolding bytes_at
bytes_at-same zero a b m w same = refl
bytes_at-same (suc n) a b m w same =
    let byte : m a ≡ w b = simp add-zero at (same 0 (omega arith)) in
    let next : (i : ℕ) → i < n → m (suc a + i) ≡ w (suc b + i) = λ i below. let more : suc i < suc n = omega arith in rw (suc-add a i, suc-add b i) (rw (add-suc a i, add-suc b i) at (same (suc i) more)) in
    let rest : bytes_at m (suc a) n ≡ bytes_at w (suc b) n = bytes_at-same n (suc a) (suc b) m w next in
    rw (byte, rest) refl

-- a memory's bytes where those of a list stand one by one
pub bytes_at-bytes : (n a place : ℕ) (m : Memory) (bytes : List ℕ) → place + n ≤ length bytes → ((i : ℕ) → i < n → unwrap_or (m (a + i)) 0 ≡ slice_index bytes (place + i)) → bytes_at m a n ≡ take n (drop place bytes)
unfolding bytes_at
bytes_at-bytes zero a place m bytes fits same = refl
bytes_at-bytes (suc n) a place m bytes fits same =
    let byte : unwrap_or (m a) 0 ≡ slice_index bytes place = simp add-zero at (same 0 (omega arith)) in
    let next : (i : ℕ) → i < n → unwrap_or (m (suc a + i)) 0 ≡ slice_index bytes (suc place + i) = λ i below. let more : suc i < suc n = omega arith in rw (suc-add a i, suc-add place i) (rw (add-suc a i, add-suc place i) at (same (suc i) more)) in
    let rest : bytes_at m (suc a) n ≡ take n (drop (suc place) bytes) = bytes_at-bytes n (suc a) (suc place) m bytes (omega arith) next in
    rw (drop-cons bytes place 0 (omega arith), byte, rest) refl

pub length-bytes_at : (m : Memory) (a n : ℕ) → length (bytes_at m a n) ≡ n
unfolding bytes_at
length-bytes_at m a zero = refl
length-bytes_at m a (suc n) = ap suc (length-bytes_at m (suc a) n)

pub or_none : (o : Option ℕ) → option_or o None ≡ o
or_none None = refl
or_none (Some x) = refl

or_assoc : (o p q : Option ℕ) → option_or (option_or o p) q ≡ option_or o (option_or p q)
or_assoc None p q = refl
or_assoc (Some x) p q = refl

-- a place before or behind a range, or in it
pub cases_range : (k place n : ℕ) → ((k < place) ⊎ (place + n ≤ k)) ⊎ ((place ≤ k) × (k < place + n))
cases_range k place n = elim (cases_lt k place) [
  | inl below ↦ inl (inl below)
  | inr above ↦ elim (cases_lt k (place + n)) [ inl inside ↦ inr (above, inside) | inr past ↦ inl (inr past) ]
]

moved : (start k place n : ℕ) → (k < place) ⊎ (place + n ≤ k) → (start + k < start + place) ⊎ (start + place + n ≤ start + k)
moved start k place n apart = elim apart [ inl below ↦ inl (omega arith) | inr above ↦ inr (omega arith) ]

cases_bool : (b : Bool) → (b ≡ true) ⊎ (b ≡ false)
cases_bool true = inl refl
cases_bool false = inr refl

-- what slice_get gives where a byte is
get_within : (bytes : List ℕ) (k : ℕ) → k < length bytes → slice_get bytes k ≡ Some (slice_index bytes k)
get_within bytes k below = grind (arith, gets)

get_past : (bytes : List ℕ) (k : ℕ) → length bytes ≤ k → slice_get bytes k ≡ None
get_past bytes k above = grind (arith, gets)

-- a byte of masked bytes, and where there is none
pub masked-shown : (start : ℕ) (mask : ℕ → Bool) (bytes : List ℕ) (k : ℕ) → mask k ≡ true → masked start mask bytes (start + k) ≡ slice_get bytes k
unfolding masked
masked-shown start mask bytes k shown =
    let off : start + k - start ≡ k = omega arith in
    let above : nat_le start (start + k) ≡ true = grind (arith, nat_tests) in
    rw (off, above, shown) refl

pub masked-hidden : (start : ℕ) (mask : ℕ → Bool) (bytes : List ℕ) (k : ℕ) → mask k ≡ false → masked start mask bytes (start + k) ≡ None
unfolding masked
masked-hidden start mask bytes k hidden =
    let off : start + k - start ≡ k = omega arith in
    let above : nat_le start (start + k) ≡ true = grind (arith, nat_tests) in
    rw (off, above, hidden) refl

pub masked-below : (start : ℕ) (mask : ℕ → Bool) (bytes : List ℕ) (a : ℕ) → a < start → masked start mask bytes a ≡ None
unfolding masked
masked-below start mask bytes a below =
    let test : nat_le start a ≡ false = grind (arith, nat_tests) in
    rw test refl

masked-byte : (start : ℕ) (mask : ℕ → Bool) (bytes : List ℕ) (place n : ℕ) → place + n ≤ length bytes → ((i : ℕ) → i < n → mask (place + i) ≡ true)
    → (i : ℕ) → i < n → unwrap_or (masked start mask bytes (start + place + i)) 0 ≡ slice_index bytes (place + i)
masked-byte start mask bytes place n fits shown i below =
    let here : start + place + i ≡ start + (place + i) = omega arith in
    let within : place + i < length bytes = omega arith in
    rw (here, masked-shown start mask bytes (place + i) (shown i below), get_within bytes (place + i) within) refl

pub masked-past : (start : ℕ) (mask : ℕ → Bool) (bytes : List ℕ) (a : ℕ) → start + length bytes ≤ a → masked start mask bytes a ≡ None
unfolding masked
masked-past start mask bytes a past = elim (cases_bool (nat_le start a && mask (a - start))) [ inl test ↦ rw test (get_past bytes (a - start) (omega arith)) | inr test ↦ rw test refl ]

-- a number in masked bytes is the number in the bytes
pub masked-number : (start : ℕ) (mask : ℕ → Bool) (bytes : List ℕ) (place n : ℕ) → place + n ≤ length bytes → ((i : ℕ) → i < n → mask (place + i) ≡ true)
    → number_at (masked start mask bytes) (start + place) n ≡ number_in bytes place n
masked-number start mask bytes place n fits shown = number_at-bytes n (start + place) place (masked start mask bytes) bytes (masked-byte start mask bytes place n fits shown)

-- bytes in masked bytes are those of the list
pub masked-bytes : (start : ℕ) (mask : ℕ → Bool) (bytes : List ℕ) (place n : ℕ) → place + n ≤ length bytes → ((i : ℕ) → i < n → mask (place + i) ≡ true)
    → bytes_at (masked start mask bytes) (start + place) n ≡ take n (drop place bytes)
masked-bytes start mask bytes place n fits shown = bytes_at-bytes n (start + place) place (masked start mask bytes) bytes fits (masked-byte start mask bytes place n fits shown)

pub index_here : (bytes others : List ℕ) (place k : ℕ) → place + length others ≤ length bytes → k < length others → slice_index (with_bytes bytes place others) (place + k) ≡ slice_index others k
unfolding with_bytes
index_here bytes others place k fits below =
    let front : length (take place bytes) ≡ place = length-take-le place bytes (omega arith) in
    let off : place + k - place ≡ k = omega arith in
    get_or-append_right (take place bytes) (others ++ drop (place + length others) bytes) place (place + k) 0 front (omega arith)
    ∙ rw off (get_or_append_left others (drop (place + length others) bytes) 0 k below)

pub index_elsewhere : (bytes others : List ℕ) (place k : ℕ) → place + length others ≤ length bytes → (k < place) ⊎ (place + length others ≤ k) → k < length bytes → slice_index (with_bytes bytes place others) k ≡ slice_index bytes k
unfolding with_bytes
index_elsewhere bytes others place k fits apart within =
    let front : length (take place bytes) ≡ place = length-take-le place bytes (omega arith) in
    elim apart [
      | inl below ↦ get_or_append_left (take place bytes) (others ++ drop (place + length others) bytes) 0 k (omega arith) ∙ get_or-take place bytes k 0 below
      | inr above ↦
          let sum : place + length others + (k - place - length others) ≡ k = omega arith in
          get_or-append_right (take place bytes) (others ++ drop (place + length others) bytes) place k 0 front (omega arith)
          ∙ get_or-append_right others (drop (place + length others) bytes) (length others) (k - place) 0 refl (omega arith)
          ∙ get_or-drop (place + length others) bytes (k - place - length others) 0
          ∙ ap (λ (j : ℕ). get_or bytes j 0) sum
    ]

-- two lists have one byte at two places
same_byte : (xs ys : List ℕ) (i j : ℕ) → i < length xs → j < length ys → slice_index xs i ≡ slice_index ys j → slice_get xs i ≡ slice_get ys j
same_byte xs ys i j in_xs in_ys same = rw (get_within xs i in_xs, get_within ys j in_ys, same) refl

-- the bytes of a list with others written over it
pub with_bytes-here : (bytes others : List ℕ) (place k : ℕ) → place + length others ≤ length bytes → k < length others → slice_get (with_bytes bytes place others) (place + k) ≡ slice_get others k
with_bytes-here bytes others place k fits below =
    let long : length (with_bytes bytes place others) ≡ length bytes = length-with_bytes bytes place others fits in
    same_byte (with_bytes bytes place others) others (place + k) k (omega arith) below (index_here bytes others place k fits below)

pub with_bytes-elsewhere : (bytes others : List ℕ) (place k : ℕ) → place + length others ≤ length bytes → (k < place) ⊎ (place + length others ≤ k) → slice_get (with_bytes bytes place others) k ≡ slice_get bytes k
with_bytes-elsewhere bytes others place k fits apart =
    let long : length (with_bytes bytes place others) ≡ length bytes = length-with_bytes bytes place others fits in
    elim (cases_lt k (length bytes)) [
      | inl within ↦ same_byte (with_bytes bytes place others) bytes k k (omega arith) within (index_elsewhere bytes others place k fits apart within)
      | inr past ↦ rw (get_past (with_bytes bytes place others) k (omega arith), get_past bytes k past) refl
    ]

-- a byte of a block
pub block-here : (start : ℕ) (bytes : List ℕ) (k : ℕ) → block start bytes (start + k) ≡ slice_get bytes k
unfolding block
block-here start bytes k =
    let off : start + k - start ≡ k = omega arith in
    let above : nat_le start (start + k) ≡ true = grind (arith, nat_tests) in
    rw (off, above) refl

pub block-elsewhere : (start : ℕ) (bytes : List ℕ) (a : ℕ) → (a < start) ⊎ (start + length bytes ≤ a) → block start bytes a ≡ None
unfolding block
block-elsewhere start bytes a apart = elim apart [
  | inl below ↦ let test : nat_le start a ≡ false = grind (arith, nat_tests) in rw test refl
  | inr above ↦ let test : nat_le start a ≡ true = grind (arith, nat_tests) in rw (test, get_past bytes (a - start) (omega arith)) refl
]

-- what a write leaves at an address
pub written-here : (memory : Memory) (start : ℕ) (bytes : List ℕ) (k : ℕ) → k < length bytes → written memory start bytes (start + k) ≡ slice_get bytes k
unfolding written
written-here memory start bytes k below = rw (block-here start bytes k, get_within bytes k below) refl

pub written-elsewhere : (memory : Memory) (start : ℕ) (bytes : List ℕ) (a : ℕ) → (a < start) ⊎ (start + length bytes ≤ a) → written memory start bytes a ≡ memory a
unfolding written
written-elsewhere memory start bytes a apart = rw (block-elsewhere start bytes a apart) refl

masked-write_byte : (start : ℕ) (mask : ℕ → Bool) (bytes others : List ℕ) (place : ℕ) → place + length others ≤ length bytes → ((i : ℕ) → i < length others → mask (place + i) ≡ true)
    → (k : ℕ) → masked start mask (with_bytes bytes place others) (start + k) ≡ written (masked start mask bytes) (start + place) others (start + k)
masked-write_byte start mask bytes others place fits shown k = elim (cases_range k place (length others)) [
  | inl apart ↦
      rw (written-elsewhere (masked start mask bytes) (start + place) others (start + k) (moved start k place (length others) apart))
      (elim (cases_bool (mask k)) [
        | inl seen ↦ rw (masked-shown start mask (with_bytes bytes place others) k seen, masked-shown start mask bytes k seen) (with_bytes-elsewhere bytes others place k fits apart)
        | inr hidden ↦ rw (masked-hidden start mask (with_bytes bytes place others) k hidden, masked-hidden start mask bytes k hidden) refl
      ])
  | inr inside ↦
      let is : place + (k - place) ≡ k = omega arith in
      let far : start + place + (k - place) ≡ start + k = omega arith in
      let seen : mask k ≡ true = rw is at (shown (k - place) (omega arith)) in
      let here : slice_get (with_bytes bytes place others) k ≡ slice_get others (k - place) = rw is at (with_bytes-here bytes others place (k - place) fits (omega arith)) in
      let there : written (masked start mask bytes) (start + place) others (start + k) ≡ slice_get others (k - place) = rw far at (written-here (masked start mask bytes) (start + place) others (k - place) (omega arith)) in
      rw (masked-shown start mask (with_bytes bytes place others) k seen, here, there) refl
]

masked-write_at : (start : ℕ) (mask : ℕ → Bool) (bytes others : List ℕ) (place : ℕ) → place + length others ≤ length bytes → ((i : ℕ) → i < length others → mask (place + i) ≡ true)
    → (a : ℕ) → masked start mask (with_bytes bytes place others) a ≡ written (masked start mask bytes) (start + place) others a
masked-write_at start mask bytes others place fits shown a = elim (cases_lt a start) [
  | inl below ↦ rw (masked-below start mask (with_bytes bytes place others) a below, written-elsewhere (masked start mask bytes) (start + place) others a (inl (omega arith)), masked-below start mask bytes a below) refl
  | inr above ↦
      let is : start + (a - start) ≡ a = omega arith in
      rw (← is) (masked-write_byte start mask bytes others place fits shown (a - start))
]

-- a write over bytes that the mask shows is a write of the memory
pub masked-write : (start : ℕ) (mask : ℕ → Bool) (bytes others : List ℕ) (place : ℕ) → place + length others ≤ length bytes → ((i : ℕ) → i < length others → mask (place + i) ≡ true)
    → masked start mask (with_bytes bytes place others) ≡ written (masked start mask bytes) (start + place) others
masked-write start mask bytes others place fits shown = fun_ext (λ a. masked-write_at start mask bytes others place fits shown a)

-- a block is bytes that all are shown
pub block_is-masked : (start : ℕ) (bytes : List ℕ) → block start bytes ≡ masked start (λ _. true) bytes
unfolding block masked
block_is-masked start bytes = fun_ext (λ a. elim (cases_bool (nat_le start a)) [ inl above ↦ rw above refl | inr below ↦ rw below refl ])

-- a write to the upper of two memories, and one to the lower where the upper has no byte
pub overlaid-write_upper : (upper lower : Memory) (a : ℕ) (bytes : List ℕ) → overlaid (written upper a bytes) lower ≡ written (overlaid upper lower) a bytes
unfolding overlaid written
overlaid-write_upper upper lower a bytes = fun_ext (λ x. or_assoc (block a bytes x) (upper x) (lower x))

lower_elsewhere : (upper lower : Memory) (a : ℕ) (bytes : List ℕ) (x : ℕ) → (x < a) ⊎ (a + length bytes ≤ x) → overlaid upper (written lower a bytes) x ≡ written (overlaid upper lower) a bytes x
unfolding overlaid
lower_elsewhere upper lower a bytes x apart = rw (written-elsewhere lower a bytes x apart, written-elsewhere (overlaid upper lower) a bytes x apart) refl

lower_here : (upper lower : Memory) (a : ℕ) (bytes : List ℕ) (x : ℕ) → upper x ≡ None → overlaid upper (written lower a bytes) x ≡ written (overlaid upper lower) a bytes x
unfolding overlaid written
lower_here upper lower a bytes x clear = rw clear refl

pub overlaid-write_lower : (upper lower : Memory) (a : ℕ) (bytes : List ℕ) → ((i : ℕ) → i < length bytes → upper (a + i) ≡ None) → overlaid upper (written lower a bytes) ≡ written (overlaid upper lower) a bytes
overlaid-write_lower upper lower a bytes none = fun_ext (λ x. elim (cases_range x a (length bytes)) [
  | inl apart ↦ lower_elsewhere upper lower a bytes x apart
  | inr inside ↦
      let is : a + (x - a) ≡ x = omega arith in
      let clear : upper x ≡ None = rw is at (none (x - a) (omega arith)) in
      lower_here upper lower a bytes x clear
])
