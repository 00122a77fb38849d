-- The maps of members: which are made, and which a run changes.
use Rattle.std.proofs.Common.{◌≡◌, ◌↔◌, ℕ, zero, suc, ◌+◌, Bool, true, false, cond, ◌&&◌, ◌||◌, List, [], ◌∷◌, ◌++◌, length, refl, sym, ap, ◌∙◌, subst, Option, Some, None, slice_get, slice_set, drop, take, nat_eq, nat_lt, get_or, ◌≤◌, add-one, arith}
use Rattle.std.specs.Prelude.{◌==◌, ◌<◌, IsTrue, if◌then◌else◌}
use Rattle.std.specs.List.{list_all, list_any, position, position_or_len, cons_option, AllByRecursion}
use Rattle.std.specs.Cmp.Lexicographic.{pointwise, pointwise_decides, bytes_decides}
use Rattle.std.proofs.lemmas.Bool.{and_parts, or_left, or_right}
use Rattle.std.proofs.lemmas.Bool.Decides.{nat_tests}
use Rattle.std.proofs.lemmas.List.{append-nil, length-map}
use Rattle.std.proofs.lemmas.List.Folds.{find_at}
use Rattle.std.proofs.lemmas.List.Quantifiers.{position-Some}
use Rattle.std.proofs.lemmas.Option.{none-some, same_Some, slice_get_past, slice_get_read}
use Rattle.chain_order.specs.Ordered.{IsBehind, IsOrdered}
use Rattle.chain_order.specs.declared.member.Kind.{Kind}
use Rattle.chain_order.specs.declared.member.Kind.TheVariants as kind
use Rattle.chain_order.specs.declared.member.Member.{Member}
use Rattle.map_store.specs.Slots.{Map}
use Rattle.map_store.specs.declared.spec.MapKind.{MapKind}
use Rattle.map_store.specs.declared.spec.MapKind.TheVariants.{Hash, Array, PercpuHash, PercpuArray}
use Rattle.map_store.specs.declared.spec.MapSpec.{MapSpec}
use Rattle.object_load.specs.Load.{IsRunnable}
use Rattle.object_load.specs.declared.program.Program.{Program}
use Rattle.run_config.specs.Maps.{specs_of}
use Rattle.run_config.specs.declared.named_map.NamedMap.{NamedMap}
use Rattle.xdp_state.specs.Stores.{AreReady, HasMaps, MemberMaps, entering, entering_as, entry_of, first_maps, is_made_for, is_ready, is_ready_as, kind_number, maps_of, prepared, program_as, program_of, same_spec, same_specs, staying, suits, with_maps}
use Rattle.xdp_state.specs.Library.{IsSound}
use Rattle.xdp_state.specs.declared.library.Library.{Library}
use Rattle.xdp_state.proofs.Programs.{runnable_at}

-- equal specs pass the test, and no others
kind_is : (k l : MapKind) → (kind_number k == kind_number l) ≡ true → k ≡ l
kind_is Hash Hash h = refl
kind_is Hash Array h = absurd cc
kind_is Hash PercpuHash h = absurd cc
kind_is Hash PercpuArray h = absurd cc
kind_is Array Hash h = absurd cc
kind_is Array Array h = refl
kind_is Array PercpuHash h = absurd cc
kind_is Array PercpuArray h = absurd cc
kind_is PercpuHash Hash h = absurd cc
kind_is PercpuHash Array h = absurd cc
kind_is PercpuHash PercpuHash h = refl
kind_is PercpuHash PercpuArray h = absurd cc
kind_is PercpuArray Hash h = absurd cc
kind_is PercpuArray Array h = absurd cc
kind_is PercpuArray PercpuHash h = absurd cc
kind_is PercpuArray PercpuArray h = refl

spec_fields : (k l : MapKind) (a b c d e f : ℕ) (xs ys : List ℕ) → k ≡ l → a ≡ b → c ≡ d → e ≡ f → xs ≡ ys
    → record { kind = k; key_size = a; value_size = c; max_entries = e; initial = xs } ≡ (let s : MapSpec = record { kind = l; key_size = b; value_size = d; max_entries = f; initial = ys } in s)
spec_fields k l a b c d e f xs ys kind key value entries initial = rw (kind, key, value, entries, initial) refl

number_is : (a b : ℕ) → (a == b) ≡ true → a ≡ b
number_is a b same = grind (arith, nat_tests)

number_itself : (a : ℕ) → (a == a) ≡ true
number_itself a = grind (arith, nat_tests)

spec_is : (one other : MapSpec) → same_spec one other ≡ true → one ≡ other
spec_is one other same =
    let rest = and_parts _ (pointwise nat_eq one.initial other.initial) same in
    let rest' = and_parts _ (one.max_entries == other.max_entries) rest.0 in
    let rest'' = and_parts _ (one.value_size == other.value_size) rest'.0 in
    let first = and_parts (kind_number one.kind == kind_number other.kind) (one.key_size == other.key_size) rest''.0 in
    spec_fields one.kind other.kind one.key_size other.key_size one.value_size other.value_size one.max_entries other.max_entries one.initial other.initial
    (kind_is one.kind other.kind first.0) (number_is _ _ first.1) (number_is _ _ rest''.1) (number_is _ _ rest'.1) ((bytes_decides one.initial other.initial).0 rest.1)

spec_itself : (spec : MapSpec) → same_spec spec spec ≡ true
spec_itself spec =
    rw (number_itself (kind_number spec.kind), number_itself spec.key_size, number_itself spec.value_size, number_itself spec.max_entries) ((bytes_decides spec.initial spec.initial).1 refl)

pub spec_decides : (one other : MapSpec) → (same_spec one other ≡ true → one ≡ other) × (one ≡ other → same_spec one other ≡ true)
spec_decides one other = (spec_is one other, λ e. subst (λ x. same_spec one x ≡ true) e (spec_itself one))

pub specs_are : (specs others : List MapSpec) → same_specs specs others ≡ true → specs ≡ others
specs_are specs others same = (pointwise_decides spec_decides specs others).0 same

pub specs_itself : (specs : List MapSpec) → same_specs specs specs ≡ true
specs_itself specs = (pointwise_decides spec_decides specs specs).1 refl

-- specs from a place on
pub same-step : (specs : List MapSpec) (maps : List NamedMap) (place : ℕ) (spec : MapSpec) (map : NamedMap) → slice_get specs place ≡ Some spec → slice_get maps place ≡ Some map
    → same_specs (drop place specs) (specs_of (drop place maps)) ≡ (same_spec spec map.spec && same_specs (drop (suc place) specs) (specs_of (drop (suc place) maps)))
same-step [] maps place spec map is other = absurd cc
same-step (s ∷ specs) [] place spec map is other = absurd cc
same-step (s ∷ specs) (m ∷ maps) zero spec map is other =
    let one : s ≡ spec = cc in
    let two : m ≡ map = cc in
    rw (one, two) refl
same-step (s ∷ specs) (m ∷ maps) (suc place) spec map is other = same-step specs maps place spec map is other

same-here : (specs : List MapSpec) (maps : List NamedMap) (place : ℕ) (spec : MapSpec) (map : NamedMap) → length specs ≡ length maps → place < length specs → spec ≡ get_or specs place spec → map ≡ get_or maps place map
    → same_specs (drop place specs) (specs_of (drop place maps)) ≡ (same_spec spec map.spec && same_specs (drop (place + 1) specs) (specs_of (drop (place + 1) maps)))
same-here specs maps place spec map long below is other =
    rw add-one (same-step specs maps place spec map (slice_get_read specs (length specs) place spec refl below is) (slice_get_read maps (length maps) place map refl (omega arith) other))

pub same-length : (specs : List MapSpec) (maps : List NamedMap) → same_specs specs (specs_of maps) ≡ true → length specs ≡ length maps
same-length specs maps same = ap length (specs_are specs (specs_of maps) same) ∙ length-map maps (λ one. one.spec)

pub length_apart : (specs : List MapSpec) (maps : List NamedMap) → (length specs ≡ length maps → ⊥) → same_specs specs (specs_of maps) ≡ false
length_apart specs maps apart = by (same_specs specs (specs_of maps)) refl where
  by : (b : Bool) → same_specs specs (specs_of maps) ≡ b → b ≡ false
  by true h = absurd (apart (same-length specs maps h))
  by false h = refl

bool_same : (a b : Bool) → (a ≡ true → b ≡ true) → (b ≡ true → a ≡ true) → a ≡ b
bool_same true b there back = sym (there refl)
bool_same false true there back = absurd (let h : false ≡ true = back refl in cc)
bool_same false false there back = refl

-- a test that is true exactly where two specs are equal
pub spec_test : (one other : MapSpec) (r : Bool) → (IsTrue r ↔ (one ≡ other)) → r ≡ same_spec one other
spec_test one other r is = bool_same r (same_spec one other) (λ h. (spec_decides one other).1 (is.0 h)) (λ h. is.1 ((spec_decides one other).0 h))

-- the specs at a place differ, or the rest decides
pub same-differs : (specs : List MapSpec) (maps : List NamedMap) (place : ℕ) (spec : MapSpec) (map : NamedMap) (r : Bool) → length specs ≡ length maps → place < length specs → spec ≡ get_or specs place spec → map ≡ get_or maps place map
    → (IsTrue r ↔ (spec ≡ (get_or maps place map).spec)) → r ≡ false → same_specs (drop place specs) (specs_of (drop place maps)) ≡ false
same-differs specs maps place spec map r long below is other test fails =
    let tested : same_spec spec map.spec ≡ r = ap (λ (m : NamedMap). same_spec spec m.spec) other ∙ sym (spec_test spec (get_or maps place map).spec r test) in
    same-here specs maps place spec map long below is other ∙ rw (tested, fails) refl

pub same-goes : (specs : List MapSpec) (maps : List NamedMap) (place : ℕ) (spec : MapSpec) (map : NamedMap) (r : Bool) → length specs ≡ length maps → place < length specs → spec ≡ get_or specs place spec → map ≡ get_or maps place map
    → (IsTrue r ↔ (spec ≡ (get_or maps place map).spec)) → r ≡ true → same_specs (drop place specs) (specs_of (drop place maps)) ≡ same_specs (drop (place + 1) specs) (specs_of (drop (place + 1) maps))
same-goes specs maps place spec map r long below is other test goes =
    let tested : same_spec spec map.spec ≡ r = ap (λ (m : NamedMap). same_spec spec m.spec) other ∙ sym (spec_test spec (get_or maps place map).spec r test) in
    same-here specs maps place spec map long below is other ∙ rw (tested, goes) refl

-- the maps for one more member
pub entering-more : (library : Library) (chain : List Member) (stores : List MemberMaps) (place : ℕ) (member : Member) → slice_get chain place ≡ Some member
    → entering library (take (suc place) chain) stores ≡ entering library (take place chain) stores ++ cons_option (entering_as library stores member (program_of library member)) []
entering-more library [] stores place member is = absurd cc
entering-more library (m ∷ chain) stores zero member is = let same : m ≡ member = cc in rw same refl
entering-more library (m ∷ chain) stores (suc place) member is = by (entering_as library stores m (program_of library m)) (entering-more library chain stores place member is) where
  by : (o : Option MemberMaps) → entering library (take (suc place) chain) stores ≡ entering library (take place chain) stores ++ cons_option (entering_as library stores member (program_of library member)) [] → cons_option o (entering library (take (suc place) chain) stores) ≡ cons_option o (entering library (take place chain) stores) ++ cons_option (entering_as library stores member (program_of library member)) []
  by None rest = rest
  by (Some entry) rest = ap (λ es. entry ∷ es) rest

pub entering-next : (library : Library) (chain : List Member) (stores : List MemberMaps) (place : ℕ) (member : Member) (o : Option MemberMaps) → slice_get chain place ≡ Some member → o ≡ entering_as library stores member (program_of library member)
    → entering library (take (place + 1) chain) stores ≡ entering library (take place chain) stores ++ cons_option o []
entering-next library chain stores place member o is made = rw (made, add-one) (entering-more library chain stores place member is)

-- such a one is put behind the others, or there is none
pub entered : (library : Library) (chain : List Member) (stores : List MemberMaps) (place : ℕ) (member : Member) (o : Option MemberMaps) (entry : MemberMaps) (made : List MemberMaps) → slice_get chain place ≡ Some member → o ≡ entering_as library stores member (program_of library member) → made ≡ entering library (take place chain) stores
    → o ≡ Some entry → made ++ entry ∷ [] ≡ entering library (take (place + 1) chain) stores
entered library chain stores place member o entry made is made_is so_far some =
    rw so_far (ap (λ o. entering library (take place chain) stores ++ cons_option o []) (sym some) ∙ sym (entering-next library chain stores place member o is made_is))

pub entered_none : (library : Library) (chain : List Member) (stores : List MemberMaps) (place : ℕ) (member : Member) (o : Option MemberMaps) (made : List MemberMaps) → slice_get chain place ≡ Some member → o ≡ entering_as library stores member (program_of library member) → made ≡ entering library (take place chain) stores
    → o ≡ None → made ≡ entering library (take (place + 1) chain) stores
entered_none library chain stores place member o made is made_is so_far none =
    so_far ∙ sym (append-nil (entering library (take place chain) stores)) ∙ ap (λ o. entering library (take place chain) stores ++ cons_option o []) (sym none) ∙ sym (entering-next library chain stores place member o is made_is)

pub runnable-as : (library : Library) (kind : Kind) (program : Program) → IsSound library → program_as library kind ≡ Some program → IsRunnable program
runnable-as library (kind.Program number) program sound is = runnable_at library number program sound is
runnable-as library (kind.Filter policy features) program sound is = absurd cc

-- a run leaves all but the maps of one entry
ready_kept : (program : Option Program) (entry : MemberMaps) (maps : List Map) → is_ready_as program (Some entry) ≡ is_ready_as program (Some (record entry { maps = maps }))
ready_kept None entry maps = refl
ready_kept (Some program) entry maps = refl

entry-with_maps : (program : Option Program) (stores : List MemberMaps) (number other : ℕ) (maps : List Map) → is_ready_as program (entry_of (with_maps stores number maps) other) ≡ is_ready_as program (entry_of stores other)
entry-with_maps program [] number other maps = refl
entry-with_maps program (entry ∷ stores) number other maps = by (entry.number == number) (entry.number == other) refl refl (entry-with_maps program stores number other maps) where
  by : (b c : Bool) → (entry.number == number) ≡ b → (entry.number == other) ≡ c → is_ready_as program (entry_of (with_maps stores number maps) other) ≡ is_ready_as program (entry_of stores other) → is_ready_as program (entry_of (with_maps (entry ∷ stores) number maps) other) ≡ is_ready_as program (entry_of (entry ∷ stores) other)
  by true true here there rest = rw (here, there) (sym (ready_kept program entry maps))
  by true false here there rest = rw (here, there) refl
  by false true here there rest = rw (here, there) refl
  by false false here there rest = rw (here, there) rest

pub ready-with_maps : (library : Library) (stores : List MemberMaps) (number : ℕ) (maps : List Map) (chain : List Member) → AreReady library stores chain → AreReady library (with_maps stores number maps) chain
ready-with_maps library stores number maps [] ready = refl
ready-with_maps library stores number maps (member ∷ chain) ready =
    let now = and_parts (is_ready library stores member) (list_all (is_ready library stores) chain) ready in
    let here : is_ready library (with_maps stores number maps) member ≡ true = entry-with_maps (program_of library member) stores number member.number maps ∙ now.0 in
    rw here (ready-with_maps library stores number maps chain now.1)

pub ready_first : (library : Library) (stores : List MemberMaps) (member : Member) (chain : List Member) → AreReady library stores (member ∷ chain) → (is_ready library stores member ≡ true) × AreReady library stores chain
ready_first library stores member chain ready = and_parts (is_ready library stores member) (list_all (is_ready library stores) chain) ready

pub ready_of : (library : Library) (stores : List MemberMaps) (chain : List Member) (place : ℕ) (member : Member) → AreReady library stores chain → slice_get chain place ≡ Some member → is_ready library stores member ≡ true
ready_of library stores [] place member ready is = absurd cc
ready_of library stores (m ∷ chain) zero member ready is =
    let same : m ≡ member = cc in
    subst (λ (m : Member). is_ready library stores m ≡ true) same (ready_first library stores m chain ready).0
ready_of library stores (m ∷ chain) (suc place) member ready is = ready_of library stores chain place member (ready_first library stores m chain ready).1 is

-- the maps that a ready program finds are as many as its own
pub has_maps : (stores : List MemberMaps) (number : ℕ) (program : Program) → is_ready_as (Some program) (entry_of stores number) ≡ true → HasMaps stores number (length program.maps)
has_maps stores number program ready = by (entry_of stores number) refl ready where
  by : (o : Option MemberMaps) → entry_of stores number ≡ o → is_ready_as (Some program) o ≡ true → HasMaps stores number (length program.maps)
  by None is h = absurd cc
  by (Some entry) is h = (entry, is, ap length (specs_are entry.specs (specs_of program.maps) h) ∙ length-map program.maps (λ one. one.spec))

-- the place of an entry, where its maps are changed
pub with_maps-set : (stores : List MemberMaps) (number place : ℕ) (entry : MemberMaps) (maps : List Map) → position_or_len (λ e. e.number == number) stores ≡ place → slice_get stores place ≡ Some entry
    → slice_set stores place (record entry { maps = maps }) ≡ with_maps stores number maps
with_maps-set [] number place entry maps at is = absurd cc
with_maps-set (e ∷ stores) number place entry maps at is = by (e.number == number) place refl at is (λ k at is. with_maps-set stores number k entry maps at is) where
  by : (b : Bool) (place : ℕ) → (e.number == number) ≡ b → position_or_len (λ e. e.number == number) (e ∷ stores) ≡ place → slice_get (e ∷ stores) place ≡ Some entry
      → ((k : ℕ) → position_or_len (λ e. e.number == number) stores ≡ k → slice_get stores k ≡ Some entry → slice_set stores k (record entry { maps = maps }) ≡ with_maps stores number maps) → slice_set (e ∷ stores) place (record entry { maps = maps }) ≡ with_maps (e ∷ stores) number maps
  by true zero h at is rest = let same : e ≡ entry = cc in rw h (ap (λ (x : MemberMaps). record x { maps = maps } ∷ stores) (sym same))
  by true (suc k) h at is rest = absurd (let none : 0 ≡ suc k = rw h at at in omega arith)
  by false zero h at is rest = absurd (let some : 1 + position_or_len (λ e. e.number == number) stores ≡ 0 = rw h at at in omega arith)
  by false (suc k) h at is rest =
      let next : 1 + position_or_len (λ e. e.number == number) stores ≡ suc k = rw h at at in
      rw h (ap (λ es. e ∷ es) (rest k (omega arith) is))

pub maps_of-at : (stores : List MemberMaps) (number place : ℕ) (entry : MemberMaps) → position_or_len (λ e. e.number == number) stores ≡ place → slice_get stores place ≡ Some entry → entry_of stores number ≡ Some entry
maps_of-at [] number place entry at is = absurd cc
maps_of-at (e ∷ stores) number place entry at is = by (e.number == number) place refl at is (λ k at is. maps_of-at stores number k entry at is) where
  by : (b : Bool) (place : ℕ) → (e.number == number) ≡ b → position_or_len (λ e. e.number == number) (e ∷ stores) ≡ place → slice_get (e ∷ stores) place ≡ Some entry
      → ((k : ℕ) → position_or_len (λ e. e.number == number) stores ≡ k → slice_get stores k ≡ Some entry → entry_of stores number ≡ Some entry) → entry_of (e ∷ stores) number ≡ Some entry
  by true zero h at is rest = rw h is
  by true (suc k) h at is rest = absurd (let none : 0 ≡ suc k = rw h at at in omega arith)
  by false zero h at is rest = absurd (let some : 1 + position_or_len (λ e. e.number == number) stores ≡ 0 = rw h at at in omega arith)
  by false (suc k) h at is rest =
      let next : 1 + position_or_len (λ e. e.number == number) stores ≡ suc k = rw h at at in
      rw h (rest k (omega arith) is)

pub entry-with : (stores : List MemberMaps) (number : ℕ) (entry : MemberMaps) (maps : List Map) → entry_of stores number ≡ Some entry → maps_of (with_maps stores number maps) number ≡ maps
entry-with [] number entry maps is = absurd cc
entry-with (e ∷ stores) number entry maps is = by (e.number == number) refl is (λ is. entry-with stores number entry maps is) where
  by : (b : Bool) → (e.number == number) ≡ b → entry_of (e ∷ stores) number ≡ Some entry → (entry_of stores number ≡ Some entry → maps_of (with_maps stores number maps) number ≡ maps) → maps_of (with_maps (e ∷ stores) number maps) number ≡ maps
  by true h is rest = rw h (rw h refl)
  by false h is rest = rw h (rw h (rest (rw h at is)))

-- the place of a number
place_at : (place first long : ℕ) → Some first ≡ (if nat_lt place long then Some place else None) → place ≡ first
place_at place first long is = by (nat_lt place long) is where
  by : (b : Bool) → Some first ≡ (if b then Some place else None) → place ≡ first
  by true is = cc
  by false is = absurd cc

past_at : (place long : ℕ) → None ≡ (if nat_lt place long then Some place else None) → long ≤ place
past_at place long none = by (nat_lt place long) refl none where
  by : (b : Bool) → nat_lt place long ≡ b → None ≡ (if b then Some place else None) → long ≤ place
  by true h none = absurd cc
  by false h none = grind (arith, nat_tests)

pub has_place : (stores : List MemberMaps) (number maps : ℕ) → HasMaps stores number maps → None ≡ position (λ e. e.number == number) stores → ⊥
has_place stores number maps has none =
    let place = position_or_len (λ (e : MemberMaps). e.number == number) stores in
    none-some has.0 (sym (slice_get_past stores place (past_at place (length stores) none)) ∙ sym (find_at (λ e. e.number == number) stores) ∙ has.1)

pub specs-at : (stores : List MemberMaps) (number maps place : ℕ) (entry : MemberMaps) → HasMaps stores number maps → Some place ≡ position (λ e. e.number == number) stores → slice_get stores place ≡ Some entry → length entry.specs ≡ maps
specs-at stores number maps place entry has at is =
    let there : entry_of stores number ≡ Some entry = maps_of-at stores number place entry (place_at _ place (length stores) at) is in
    let same : has.0 ≡ entry = same_Some has.0 entry (sym has.1 ∙ there) in
    ap (λ (e : MemberMaps). length e.specs) (sym same) ∙ has.2

pub read_at : (stores : List MemberMaps) (number place : ℕ) (entry : MemberMaps) → Some place ≡ position (λ e. e.number == number) stores → entry ≡ get_or stores place entry → slice_get stores place ≡ Some entry
read_at stores number place entry at is =
    slice_get_read stores (length stores) place entry refl (position-Some (λ e. e.number == number) stores place entry (sym at)).0 is

-- a run that changes the maps at the place of a number
pub record Ran (stores : List MemberMaps) (number place : ℕ) (entry new : MemberMaps) : Type 0 where
  pub at : Some place ≡ position (λ e. e.number == number) stores
  pub is : slice_get stores place ≡ Some entry
  pub same : new ≡ record entry { maps = new.maps }

pub entry-ran : (stores : List MemberMaps) (number place : ℕ) (entry new : MemberMaps) → Ran stores number place entry new → entry_of stores number ≡ Some entry
entry-ran stores number place entry new ran = maps_of-at stores number place entry (place_at _ place (length stores) ran.at) ran.is

pub stores-ran : (stores : List MemberMaps) (number place : ℕ) (entry new : MemberMaps) → Ran stores number place entry new → slice_set stores place new ≡ with_maps stores number new.maps
stores-ran stores number place entry new ran =
    ap (slice_set stores place) ran.same ∙ with_maps-set stores number place entry new.maps (place_at _ place (length stores) ran.at) ran.is

pub maps-ran : (stores : List MemberMaps) (number place : ℕ) (entry new : MemberMaps) → Ran stores number place entry new → maps_of (slice_set stores place new) number ≡ new.maps
maps-ran stores number place entry new ran =
    ap (λ entries. maps_of entries number) (stores-ran stores number place entry new ran) ∙ entry-with stores number entry new.maps (entry-ran stores number place entry new ran)

left_of : (a b : Bool) → (a || b) ≡ true → b ≡ false → a ≡ true
left_of true b some none = refl
left_of false b some none = absurd cc

right_of : (a b : Bool) → (a || b) ≡ true → a ≡ false → b ≡ true
right_of true b some none = absurd cc
right_of false b some none = some

any_cons : (p : MemberMaps → Bool) (o : Option MemberMaps) (xs : List MemberMaps) → list_any p xs ≡ true → list_any p (cons_option o xs) ≡ true
any_cons p None xs any = any
any_cons p (Some x) xs any = or_right (p x) (list_any p xs) any

-- Each member has a number of its own, so what suits some member of a number suits the one of it.
abbrev pub suits_some : Library → List Member → MemberMaps → Bool
suits_some library chain entry = list_any (λ member. suits library member entry) chain

other_suits : (library : Library) (member : Member) (entry : MemberMaps) (number : ℕ) → (entry.number == number) ≡ true → (member.number == number) ≡ false → suits library member entry ≡ false
other_suits library member entry number here apart =
    let fails : (entry.number == member.number) ≡ false = grind (arith, nat_tests) in
    rw fails refl

none_suits : (library : Library) (member : Member) (chain : List Member) (entry : MemberMaps) → AllByRecursion (IsBehind member) chain → (entry.number == member.number) ≡ true → suits_some library chain entry ≡ false
none_suits library member [] entry behind here = refl
none_suits library member (m ∷ chain) entry behind here =
    rw (other_suits library m entry member.number here behind.0.1) (none_suits library member chain entry behind.1 here)

behind_at : (one : Member) (chain : List Member) (place : ℕ) (member : Member) → AllByRecursion (IsBehind one) chain → slice_get chain place ≡ Some member → (member.number == one.number) ≡ false
behind_at one [] place member behind is = absurd cc
behind_at one (m ∷ chain) zero member behind is = let same : m ≡ member = cc in subst (λ (m : Member). (m.number == one.number) ≡ false) same behind.0.1
behind_at one (m ∷ chain) (suc place) member behind is = behind_at one chain place member behind.1 is

suits_one : (library : Library) (chain : List Member) (place : ℕ) (member : Member) (entry : MemberMaps) → IsOrdered chain → slice_get chain place ≡ Some member → (entry.number == member.number) ≡ true → suits_some library chain entry ≡ true → suits library member entry ≡ true
suits_one library [] place member entry ordered is here some = absurd cc
suits_one library (m ∷ chain) zero member entry ordered is here some =
    let same : m ≡ member = cc in
    let here' : (entry.number == m.number) ≡ true = rw same here in
    let none : suits_some library chain entry ≡ false = none_suits library m chain entry ordered.0 here' in
    subst (λ (m : Member). suits library m entry ≡ true) same (left_of (suits library m entry) (suits_some library chain entry) some none)
suits_one library (m ∷ chain) (suc place) member entry ordered is here some =
    let apart : (member.number == m.number) ≡ false = behind_at m chain place member ordered.0 is in
    let other : (m.number == member.number) ≡ false = grind (arith, nat_tests) in
    let fails : suits library m entry ≡ false = other_suits library m entry member.number here other in
    suits_one library chain place member entry ordered.1 is here (right_of (suits library m entry) (suits_some library chain entry) some fails)

-- all that is prepared suits some member
all_append : (P : MemberMaps → Type 0) (xs ys : List MemberMaps) → AllByRecursion P xs → AllByRecursion P ys → AllByRecursion P (xs ++ ys)
all_append P [] ys one other = other
all_append P (x ∷ xs) ys one other = (one.0, all_append P xs ys one.1 other)

staying_suits : (library : Library) (chain : List Member) (stores : List MemberMaps) → AllByRecursion (λ entry. suits_some library chain entry ≡ true) (staying library chain stores)
staying_suits library chain [] = tt
staying_suits library chain (entry ∷ stores) = by (suits_some library chain entry) refl (staying_suits library chain stores) where
  by : (b : Bool) → suits_some library chain entry ≡ b → AllByRecursion (λ entry. suits_some library chain entry ≡ true) (staying library chain stores) → AllByRecursion (λ entry. suits_some library chain entry ≡ true) (cond b (entry ∷ staying library chain stores) (staying library chain stores))
  by true h rest = (h, rest)
  by false h rest = rest

first_suits : (library : Library) (member : Member) (program : Program) → program_of library member ≡ Some program → suits library member (first_maps member.number program) ≡ true
first_suits library member program is = rw (number_itself member.number, is) (specs_itself (specs_of program.maps))

entering_suits : (library : Library) (stores : List MemberMaps) (chain rest : List Member) → ((entry : MemberMaps) → suits_some library rest entry ≡ true → suits_some library chain entry ≡ true)
    → AllByRecursion (λ entry. suits_some library chain entry ≡ true) (entering library rest stores)
entering_suits library stores chain [] weaker = tt
entering_suits library stores chain (member ∷ rest) weaker = by (program_of library member) (list_any (suits library member) stores) refl refl (entering_suits library stores chain rest (λ entry some. weaker entry (or_right (suits library member entry) (suits_some library rest entry) some))) where
  by : (o : Option Program) (b : Bool) → program_of library member ≡ o → list_any (suits library member) stores ≡ b → AllByRecursion (λ entry. suits_some library chain entry ≡ true) (entering library rest stores)
      → AllByRecursion (λ entry. suits_some library chain entry ≡ true) (entering library (member ∷ rest) stores)
  by None b is has later = rw is later
  by (Some program) true is has later = rw (is, has) later
  by (Some program) false is has later =
      let suits_it : suits library member (first_maps member.number program) ≡ true = first_suits library member program is in
      rw (is, has) (weaker (first_maps member.number program) (or_left (suits library member (first_maps member.number program)) (suits_some library rest (first_maps member.number program)) suits_it), later)

-- and for each program some entry is prepared
any_append_left : (p : MemberMaps → Bool) (xs ys : List MemberMaps) → list_any p xs ≡ true → list_any p (xs ++ ys) ≡ true
any_append_left p [] ys any = absurd cc
any_append_left p (x ∷ xs) ys any = by (p x) refl any (λ any. any_append_left p xs ys any) where
  by : (b : Bool) → p x ≡ b → list_any p (x ∷ xs) ≡ true → (list_any p xs ≡ true → list_any p (xs ++ ys) ≡ true) → list_any p ((x ∷ xs) ++ ys) ≡ true
  by true h any rest = rw h refl
  by false h any rest = rw h (rest (rw h at any))

any_append_right : (p : MemberMaps → Bool) (xs ys : List MemberMaps) → list_any p ys ≡ true → list_any p (xs ++ ys) ≡ true
any_append_right p [] ys any = any
any_append_right p (x ∷ xs) ys any = or_right (p x) (list_any p (xs ++ ys)) (any_append_right p xs ys any)

any_weaker : (p q : MemberMaps → Bool) (xs : List MemberMaps) → ((x : MemberMaps) → p x ≡ true → q x ≡ true) → list_any p xs ≡ true → list_any q xs ≡ true
any_weaker p q [] weaker any = absurd cc
any_weaker p q (x ∷ xs) weaker any = by (p x) refl any (λ any. any_weaker p q xs weaker any) where
  by : (b : Bool) → p x ≡ b → list_any p (x ∷ xs) ≡ true → (list_any p xs ≡ true → list_any q xs ≡ true) → list_any q (x ∷ xs) ≡ true
  by true h any rest = or_left (q x) (list_any q xs) (weaker x h)
  by false h any rest = or_right (q x) (list_any q xs) (rest (rw h at any))

some_suits : (library : Library) (chain : List Member) (place : ℕ) (member : Member) (entry : MemberMaps) → slice_get chain place ≡ Some member → suits library member entry ≡ true → suits_some library chain entry ≡ true
some_suits library [] place member entry is suits_it = absurd cc
some_suits library (m ∷ chain) zero member entry is suits_it =
    let same : m ≡ member = cc in
    or_left (suits library m entry) (suits_some library chain entry) (rw same suits_it)
some_suits library (m ∷ chain) (suc place) member entry is suits_it =
    or_right (suits library m entry) (suits_some library chain entry) (some_suits library chain place member entry is suits_it)

stays_there : (library : Library) (chain : List Member) (place : ℕ) (member : Member) (stores : List MemberMaps) → slice_get chain place ≡ Some member → list_any (suits library member) stores ≡ true → list_any (suits library member) (staying library chain stores) ≡ true
stays_there library chain place member [] is any = absurd cc
stays_there library chain place member (entry ∷ stores) is any = by (suits library member entry) (suits_some library chain entry) refl refl any (λ any. stays_there library chain place member stores is any) where
  by : (b c : Bool) → suits library member entry ≡ b → suits_some library chain entry ≡ c → list_any (suits library member) (entry ∷ stores) ≡ true
      → (list_any (suits library member) stores ≡ true → list_any (suits library member) (staying library chain stores) ≡ true) → list_any (suits library member) (staying library chain (entry ∷ stores)) ≡ true
  by true true h k any rest = rw (k, h) refl
  by true false h k any rest = absurd (let some : suits_some library chain entry ≡ true = some_suits library chain place member entry is h in cc)
  by false true h k any rest = rw (k, h) (rest (rw h at any))
  by false false h k any rest = rw k (rest (rw h at any))

enters_there : (library : Library) (chain : List Member) (place : ℕ) (member : Member) (program : Program) (stores : List MemberMaps) → slice_get chain place ≡ Some member → program_of library member ≡ Some program → list_any (suits library member) stores ≡ false → list_any (λ entry. entry.number == member.number) (entering library chain stores) ≡ true
enters_there library [] place member program stores is has none = absurd cc
enters_there library (m ∷ chain) zero member program stores is has none =
    let same : m ≡ member = cc in
    rw (same, has, none, number_itself member.number) refl
enters_there library (m ∷ chain) (suc place) member program stores is has none =
    any_cons (λ entry. entry.number == member.number) (entering_as library stores m (program_of library m)) (entering library chain stores) (enters_there library chain place member program stores is has none)

number_of_suiting : (library : Library) (member : Member) (entry : MemberMaps) → suits library member entry ≡ true → (entry.number == member.number) ≡ true
number_of_suiting library member entry suits_it = (and_parts (entry.number == member.number) (is_made_for (program_of library member) entry) suits_it).0

-- the first entry of a number is made for its program
ready_among : (program : Option Program) (number : ℕ) (entries : List MemberMaps) → AllByRecursion (λ entry. (entry.number == number) ≡ true → is_made_for program entry ≡ true) entries → list_any (λ entry. entry.number == number) entries ≡ true → is_ready_as program (entry_of entries number) ≡ true
ready_among None number entries all any = refl
ready_among (Some program) number [] all any = absurd cc
ready_among (Some program) number (entry ∷ entries) all any = by (entry.number == number) refl any (λ any. ready_among (Some program) number entries all.1 any) where
  by : (b : Bool) → (entry.number == number) ≡ b → list_any (λ entry. entry.number == number) (entry ∷ entries) ≡ true
      → (list_any (λ entry. entry.number == number) entries ≡ true → is_ready_as (Some program) (entry_of entries number) ≡ true) → is_ready_as (Some program) (entry_of (entry ∷ entries) number) ≡ true
  by true h any rest = rw h (all.0 h)
  by false h any rest = rw h (rest (rw h at any))

all_weaker : (P Q : MemberMaps → Type 0) (xs : List MemberMaps) → ((x : MemberMaps) → P x → Q x) → AllByRecursion P xs → AllByRecursion Q xs
all_weaker P Q [] weaker all = tt
all_weaker P Q (x ∷ xs) weaker all = (weaker x all.0, all_weaker P Q xs weaker all.1)

ready_at : (library : Library) (chain : List Member) (stores : List MemberMaps) (place : ℕ) (member : Member) → IsOrdered chain → slice_get chain place ≡ Some member → is_ready library (prepared library chain stores) member ≡ true
unfolding prepared
ready_at library chain stores place member ordered is = by (program_of library member) refl where
  all : AllByRecursion (λ entry. suits_some library chain entry ≡ true) (staying library chain stores ++ entering library chain stores)
  all = all_append _ (staying library chain stores) (entering library chain stores) (staying_suits library chain stores) (entering_suits library stores chain chain (λ entry some. some))

  made : AllByRecursion (λ entry. (entry.number == member.number) ≡ true → is_made_for (program_of library member) entry ≡ true) (staying library chain stores ++ entering library chain stores)
  made = all_weaker _ _ (staying library chain stores ++ entering library chain stores) (λ entry some here. (and_parts (entry.number == member.number) (is_made_for (program_of library member) entry) (suits_one library chain place member entry ordered is here some)).1) all

  any : (program : Program) (b : Bool) → program_of library member ≡ Some program → list_any (suits library member) stores ≡ b → list_any (λ entry. entry.number == member.number) (staying library chain stores ++ entering library chain stores) ≡ true
  any program true has some =
      any_append_left (λ entry. entry.number == member.number) (staying library chain stores) (entering library chain stores)
      (any_weaker (suits library member) (λ entry. entry.number == member.number) (staying library chain stores) (number_of_suiting library member) (stays_there library chain place member stores is some))
  any program false has none =
      any_append_right (λ entry. entry.number == member.number) (staying library chain stores) (entering library chain stores) (enters_there library chain place member program stores is has none)

  by : (o : Option Program) → program_of library member ≡ o → is_ready_as (program_of library member) (entry_of (staying library chain stores ++ entering library chain stores) member.number) ≡ true
  by None has = rw has refl
  by (Some program) has = ready_among (program_of library member) member.number (staying library chain stores ++ entering library chain stores) made (any program (list_any (suits library member) stores) has refl)

all_from_get : (p : Member → Bool) (chain : List Member) → ((place : ℕ) (member : Member) → slice_get chain place ≡ Some member → p member ≡ true) → list_all p chain ≡ true
all_from_get p [] at = refl
all_from_get p (m ∷ chain) at = rw (at 0 m refl) (all_from_get p chain (λ place member is. at (suc place) member is))

pub ready_prepared : (library : Library) (chain : List Member) (stores : List MemberMaps) → IsOrdered chain → AreReady library (prepared library chain stores) chain
ready_prepared library chain stores ordered = all_from_get (is_ready library (prepared library chain stores)) chain (λ place member is. ready_at library chain stores place member ordered is)
