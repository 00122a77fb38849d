-- A tree whose nodes are the lesser of their children.
use Rattle.std.proofs.Common.{◌≡◌, ℕ, zero, suc, ◌+◌, ◌-◌, ◌*◌, ◌/◌, ◌<◌, ◌≤◌, inl, inr, Bool, true, false, not, min, if◌then◌else◌, List, ◌++◌, set, take, length, get_or, refl, sym, ap, ◌∙◌, subst, arith}
use Rattle.std.proofs.lemmas.Bool.{cases_lt, cases_eq, cases_Bool}
use Rattle.std.proofs.lemmas.List.{length-set, get_or-set_same, get_or-set_other, take_at}
use Rattle.map_store.specs.Occupied.{is_taken, slot_number, lesser_child, IsLesser, AreLesserBut, IsTree}
use Rattle.map_store.specs.SlotsView.{IsFirstPlace}
use Rattle.map_store.proofs.Writes.{is_taken-same, is_taken-other}

-- a node keeps its lesser child over a write elsewhere
lesser_child-set : (least : List ℕ) (node value i : ℕ) → (i ≡ node / 2 → ⊥) → lesser_child (set least node value) i ≡ lesser_child least i
unfolding lesser_child
lesser_child-set least node value i apart =
    rw (get_or-set_other least node (2 * i) value 0 (λ same. apart (omega arith)), get_or-set_other least node (2 * i + 1) value 0 (λ same. apart (omega arith))) refl

lesser-set : (least : List ℕ) (node value i : ℕ) → (i ≡ node → ⊥) → (i ≡ node / 2 → ⊥) → IsLesser least i → IsLesser (set least node value) i
lesser-set least node value i differs apart is = get_or-set_other least node i value 0 differs ∙ is ∙ sym (lesser_child-set least node value i apart)

-- a write to a slot's node leaves one node wrong, the one above
pub numbered : (slots : ℕ) (least : List ℕ) (node value : ℕ) → slots ≤ node → AreLesserBut 0 slots least → AreLesserBut (node / 2) slots (set least node value)
numbered slots least node value from nodes i some within apart = lesser-set least node value i (λ same. omega arith) apart (nodes i some within (λ none. omega arith))

-- a node that is made right leaves at most the one above it wrong
pub settled : (slots : ℕ) (least : List ℕ) (node : ℕ) → length least ≡ slots * 2 → 1 ≤ node → node < slots → AreLesserBut node slots least → AreLesserBut (node / 2) slots (set least node (lesser_child least node))
settled slots least node size first within nodes i some below apart = elim (cases_eq i node) [
  | inl same ↦ rw same (get_or-set_same least node (lesser_child least node) 0 (omega arith) ∙ sym (lesser_child-set least node (lesser_child least node) node (λ half. omega arith)))
  | inr differs ↦ lesser-set least node (lesser_child least node) i differs apart (nodes i some below differs)
]

-- a node that is made right leaves those behind it
pub settled_from : (slots : ℕ) (least : List ℕ) (node : ℕ) → length least ≡ slots * 2 → 1 ≤ node → node < slots → ((i : ℕ) → node + 1 ≤ i → i < slots → IsLesser least i) → (i : ℕ) → node ≤ i → i < slots → IsLesser (set least node (lesser_child least node)) i
settled_from slots least node size first within nodes i from below = elim (cases_eq i node) [
  | inl same ↦ rw same (get_or-set_same least node (lesser_child least node) 0 (omega arith) ∙ sym (lesser_child-set least node (lesser_child least node) node (λ half. omega arith)))
  | inr differs ↦ lesser-set least node (lesser_child least node) i differs (λ half. omega arith) (nodes i (omega arith) below)
]

pub number_kept : (least : List ℕ) (node value i : ℕ) → node < i → get_or (set least node value) i 0 ≡ get_or least i 0
number_kept least node value i below = get_or-set_other least node i value 0 (λ same. omega arith)

lesser-either : (slots : ℕ) (least : List ℕ) (node : ℕ) → AreLesserBut 0 slots least → 1 ≤ node → node < slots → get_or least node 0 ≡ min (get_or least (2 * node) 0) (get_or least (2 * node + 1) 0)
unfolding lesser_child
lesser-either slots least node nodes some within = nodes node some within (λ none. omega arith)

-- the root is no greater than any node
root_least : (fuel slots : ℕ) (least : List ℕ) (node : ℕ) → AreLesserBut 0 slots least → node ≤ fuel → 1 ≤ node → node < slots * 2 → get_or least 1 0 ≤ get_or least node 0
root_least zero slots least node nodes most some within = absurd (omega arith)
root_least (suc fuel) slots least node nodes most some within = elim (cases_eq node 1) [
  | inl one ↦ rw one (omega arith)
  | inr more ↦
      let up : get_or least 1 0 ≤ get_or least (node / 2) 0 = root_least fuel slots least (node / 2) nodes (omega arith) (omega arith) (omega arith) in
      let is : get_or least (node / 2) 0 ≡ min (get_or least (2 * (node / 2)) 0) (get_or least (2 * (node / 2) + 1) 0) = lesser-either slots least (node / 2) nodes (omega arith) (omega arith) in
      elim (cases_eq node (2 * (node / 2))) [
        | inl even ↦ subst (λ (k : ℕ). get_or least 1 0 ≤ get_or least k 0) (sym even) (omega arith)
        | inr odd ↦
            let behind : 2 * (node / 2) + 1 ≡ node = omega arith in
            subst (λ (k : ℕ). get_or least 1 0 ≤ get_or least k 0) behind (omega arith)
      ]
]

-- the value of a node stands at a slot's node
record IsOfSlot (slots : ℕ) (least : List ℕ) (value : ℕ) : Type 0 where
  place : ℕ
  within : place < slots
  is : value ≡ get_or least (slots + place) 0

of_slot : (fuel slots : ℕ) (least : List ℕ) (node : ℕ) → AreLesserBut 0 slots least → slots * 2 ≤ node + fuel → 1 ≤ node → node < slots * 2 → IsOfSlot slots least (get_or least node 0)
of_slot zero slots least node nodes room some within = absurd (omega arith)
of_slot (suc fuel) slots least node nodes room some within = elim (cases_lt node slots) [
  | inr behind ↦ let e : slots + (node - slots) ≡ node = omega arith in record { place = node - slots; within = omega arith; is = ap (λ (k : ℕ). get_or least k 0) (sym e) }
  | inl inner ↦
      let is : get_or least node 0 ≡ min (get_or least (2 * node) 0) (get_or least (2 * node + 1) 0) = lesser-either slots least node nodes some inner in
      elim (cases_lt (get_or least (2 * node) 0) (get_or least (2 * node + 1) 0)) [
        | inl less ↦ let e : get_or least node 0 ≡ get_or least (2 * node) 0 = omega arith in rw e (of_slot fuel slots least (2 * node) nodes (omega arith) (omega arith) (omega arith))
        | inr more ↦ let e : get_or least node 0 ≡ get_or least (2 * node + 1) 0 = omega arith in rw e (of_slot fuel slots least (2 * node + 1) nodes (omega arith) (omega arith) (omega arith))
      ]
]

number-taken : (slots : ℕ) (taken : List Bool) (place : ℕ) → is_taken taken place ≡ true → slot_number slots taken place ≡ slots
number-taken slots taken place seen = rw seen refl

number-empty : (slots : ℕ) (taken : List Bool) (place : ℕ) → is_taken taken place ≡ false → slot_number slots taken place ≡ place
number-empty slots taken place unseen = rw unseen refl

-- an empty slot isn't in front of the root's
root_first : (slots : ℕ) (taken : List Bool) (least : List ℕ) (k : ℕ) → IsTree slots taken least → k < slots → k < get_or least 1 0 → not (is_taken taken k) ≡ false
root_first slots taken least k tree within front = elim (cases_Bool (is_taken taken k)) [
  | inl seen ↦ rw seen refl
  | inr unseen ↦
      let number : get_or least (slots + k) 0 ≡ k = tree.numbers k within ∙ number-empty slots taken k unseen in
      let low : get_or least 1 0 ≤ get_or least (slots + k) 0 = root_least (slots + k) slots least (slots + k) tree.nodes (omega arith) (omega arith) (omega arith) in
      absurd (omega arith)
]

pub root_found : (slots : ℕ) (taken : List Bool) (least : List ℕ) → IsTree slots taken least → get_or least 1 0 < slots → IsFirstPlace (λ place. not (is_taken taken place)) slots (get_or least 1 0)
root_found slots taken least tree below =
    let some : 0 < slots = tree.some in
    let slot : IsOfSlot slots least (get_or least 1 0) = of_slot (slots * 2) slots least 1 tree.nodes (omega arith) (omega arith) (omega arith) in
    record {
      within = below;
      found = elim (cases_Bool (is_taken taken slot.place)) [
        | inl seen ↦
            let number : get_or least (slots + slot.place) 0 ≡ slots = tree.numbers slot.place slot.within ∙ number-taken slots taken slot.place seen in
            absurd (omega (arith, slot.is))
        | inr unseen ↦
            let root : get_or least 1 0 ≡ slot.place = slot.is ∙ tree.numbers slot.place slot.within ∙ number-empty slots taken slot.place unseen in
            rw (root, unseen) refl
      ];
      first = λ k front. root_first slots taken least k tree (omega arith) front;
    }

pub root_none : (slots : ℕ) (taken : List Bool) (least : List ℕ) → IsTree slots taken least → slots ≤ get_or least 1 0 → (k : ℕ) → k < slots → not (is_taken taken k) ≡ false
root_none slots taken least tree above k within = root_first slots taken least k tree within (omega arith)

-- the tree once a slot is marked
number-set : (slots : ℕ) (taken : List Bool) (place k : ℕ) (b : Bool) → (k ≡ place → ⊥) → slot_number slots (set taken place b) k ≡ slot_number slots taken k
number-set slots taken place k b apart = rw (is_taken-other taken place k b apart) refl

marked : (slots : ℕ) (taken : List Bool) (least new : List ℕ) (place value : ℕ) (b : Bool) → IsTree slots taken least → place < slots → value ≡ (if b then slots else place)
    → length new ≡ length least → ((node : ℕ) → slots ≤ node → get_or new node 0 ≡ get_or (set least (slots + place) value) node 0) → AreLesserBut 0 slots new → IsTree slots (set taken place b) new
marked slots taken least new place value b tree within is long numbers nodes =
    let size : length least ≡ slots * 2 = tree.size in
    let inside : place < length taken = rw tree.count within in
    record {
      some = tree.some;
      few = tree.few;
      count = length-set taken place b ∙ tree.count;
      size = long ∙ tree.size;
      numbers = λ k below. numbers (slots + k) (omega arith) ∙ elim (cases_eq k place) [
        | inl same ↦ rw same (get_or-set_same least (slots + place) value 0 (omega arith) ∙ is ∙ sym (rw (is_taken-same taken place b inside) refl))
        | inr apart ↦ get_or-set_other least (slots + place) (slots + k) value 0 (λ same. apart (omega arith)) ∙ tree.numbers k below ∙ sym (number-set slots taken place k b apart)
      ];
      nodes = nodes;
    }

-- the same of the buffer whose slice the code has changed
pub marked_whole : (taken : List Bool) (least new rest : List ℕ) (count place value : ℕ) (b : Bool) → IsTree (length taken) taken least → place < length taken → value ≡ (if b then length taken else place)
    → length new ≡ length least → ((node : ℕ) → length taken ≤ node → get_or new node 0 ≡ get_or (set least (length taken + place) value) node 0) → AreLesserBut 0 (length taken) new → count ≡ length new
    → IsTree (length (set taken place b)) (set taken place b) (take count (new ++ rest))
marked_whole taken least new rest count place value b tree within is long numbers nodes whole =
    rw (length-set taken place b, take_at new rest count (sym whole)) (marked (length taken) taken least new place value b tree within is long numbers nodes)
