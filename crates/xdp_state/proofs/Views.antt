-- What a state stands for, as one of its hooks changes.
use Rattle.std.proofs.Common.{◌≡◌, ℕ, zero, suc, ◌+◌, ◌<◌, Bool, true, false, not, cond, List, [], ◌∷◌, ◌++◌, length, map, refl, sym, ap, ◌∙◌, subst, ◌⊎◌, inl, inr, nat_lt, slice_get, slice_set, Option, Some, None, add-one, arith}
use Rattle.std.specs.Prelude.{◌==◌, filter, insert, option_map}
use Rattle.std.specs.List.{AllByRecursion, list_any}
use Rattle.std.proofs.lemmas.Bool.{cases_Bool, not-false}
use Rattle.std.proofs.lemmas.Bool.Decides.{nat_tests}
use Rattle.std.proofs.lemmas.List.{length-map, map-append}
use Rattle.std.proofs.lemmas.List.Elements.{filter-append, filter_agree}
use Rattle.std.proofs.lemmas.Option.{slice_get_within}
use Rattle.std.proofs.Math.ListN.{length-set}
use Rattle.chain_order.specs.Chain.{IsChain}
use Rattle.chain_order.specs.Member.{has_number}
use Rattle.chain_order.specs.Sorted.{by_key}
use Rattle.chain_order.specs.declared.member.Member.{Member}
use Rattle.chain_order.proofs.Ranking.{chain_is, length-chain}
use Rattle.xdp_state.specs.Members.{Attached, chain_on, differs, members_of, members_off, mode_on, same_mode}
use Rattle.xdp_state.specs.State.{IsWhole, attached_at, attached_from, in_order, view_of}
use Rattle.xdp_state.specs.declared.hook.Hook.{Hook}
use Rattle.xdp_state.specs.declared.mode.Mode.{Mode}
use Rattle.xdp_state.specs.declared.mode.Mode.TheVariants.{Native, Skb}
use Rattle.xdp_state.specs.declared.state.State.TheInside.{Inside}
use Rattle.xdp_state.proofs.Hooks.{placed, stays, append-none, on-from, filter-set, filter-set_one, filter-insert_no, filter-insert_one, leave-placed, attached-leave}
use Rattle.xdp_state.proofs.Sorting.{filter-swap, filter-by_key, by_key-more, by_key-agree, filter_none, all-by_key}

abbrev number_of : Attached → ℕ
number_of a = a.member.number

abbrev pub member_of : Attached → Member
member_of a = a.member

-- no number is above the count
abbrev pub AreNumbered : ℕ → List Attached → Type 0
AreNumbered count attached = filter (λ a. nat_lt count (number_of a)) attached ≡ []

numbered-key : (count k : ℕ) (attached : List Attached) → AreNumbered count attached → count < k → filter (λ a. number_of a == k) attached ≡ []
numbered-key count k attached numbers above =
    filter_none (λ a. number_of a == k) (λ a. nat_lt count (number_of a)) attached (λ a same. grind (arith, nat_tests)) numbers

pub numbered-more : (count : ℕ) (attached : List Attached) → AreNumbered count attached → AreNumbered (count + 1) attached
numbered-more count attached numbers =
    filter_none (λ a. nat_lt (count + 1) (number_of a)) (λ a. nat_lt count (number_of a)) attached (λ a above. grind (arith, nat_tests)) numbers

-- a publication that attaches nothing
pub in_order-more : (attached : List Attached) (count : ℕ) → AreNumbered count attached → in_order attached (count + 1) ≡ in_order attached count
in_order-more attached count numbers =
    rw add-one (by_key-more number_of 1 count attached ∙ append-none (by_key number_of 1 count attached) _ (numbered-key count (1 + count) attached numbers (omega arith)))

-- the members of an interface are those of its hook
pub members_of-view : (hooks : List Hook) (count interface : ℕ) (hook : Hook) → slice_get hooks interface ≡ Some hook → members_of (in_order (attached_from 0 hooks) count) interface ≡ in_order (attached_at interface hook) count
members_of-view hooks count interface hook is =
    filter-by_key number_of (λ a. a.interface == interface) 1 count (attached_from 0 hooks)
    ∙ ap (by_key number_of 1 count) (on-from interface 0 interface hooks hook (omega arith) is)

-- the chain and the mode of an interface
pub chain_on-view : (s : Inside) (interface : ℕ) (hook : Hook) → IsWhole s → slice_get s.hooks.items interface ≡ Some hook → hook.chain ≡ chain_on (view_of s).members interface
unfolding chain_on
chain_on-view s interface hook whole is = chain_is _ hook.chain (whole.chains interface hook is)

-- the mode of some members
abbrev pub mode_if : List Member → Mode → Option Mode
mode_if [] mode = None
mode_if (m ∷ ms) mode = Some mode

all-placed : (interface : ℕ) (mode : Mode) (ms : List Member) → AllByRecursion (λ a. a.mode ≡ mode) (map (placed interface mode) ms)
all-placed interface mode [] = tt
all-placed interface mode (m ∷ ms) = (refl, all-placed interface mode ms)

first_mode : (chain : List Member) (mode : Mode) (attached : List Attached) → length chain ≡ length attached → AllByRecursion (λ a. a.mode ≡ mode) attached → option_map (λ a. a.mode) (slice_get attached 0) ≡ mode_if chain mode
first_mode [] mode [] long all = refl
first_mode [] mode (a ∷ attached) long all = absurd (omega arith)
first_mode (m ∷ ms) mode [] long all = absurd (omega arith)
first_mode (m ∷ ms) mode (a ∷ attached) long all = ap (λ (mode : Mode). Some mode) all.0

pub mode_on-view : (s : Inside) (interface : ℕ) (hook : Hook) → IsWhole s → slice_get s.hooks.items interface ≡ Some hook → mode_on (view_of s).members interface ≡ mode_if hook.chain hook.mode
unfolding mode_on
mode_on-view s interface hook whole is =
    let there = members_of-view s.hooks.items s.count interface hook is in
    let long : length hook.chain ≡ length (members_of (view_of s).members interface) = length-chain _ hook.chain (whole.chains interface hook is) ∙ length-map (members_of (view_of s).members interface) member_of in
    let all : AllByRecursion (λ a. a.mode ≡ hook.mode) (members_of (view_of s).members interface) =
    subst (AllByRecursion (λ a. a.mode ≡ hook.mode)) (sym there) (all-by_key (λ a. a.mode ≡ hook.mode) number_of 1 s.count (attached_at interface hook) (all-placed interface hook.mode hook.chain)) in
    first_mode hook.chain hook.mode (members_of (view_of s).members interface) long all

-- where a mode fits there is no member, or the mode is the hook's
same_mode-is : (one other : Mode) → same_mode one other ≡ true → one ≡ other
same_mode-is Native Native same = refl
same_mode-is Native Skb same = absurd cc
same_mode-is Skb Native same = absurd cc
same_mode-is Skb Skb same = refl

pub mode_fits : (chain : List Member) (there mode : Mode) → differs (mode_if chain there) mode ≡ false → (chain ≡ []) ⊎ (there ≡ mode)
mode_fits [] there mode fits = inl refl
mode_fits (m ∷ ms) there mode fits = inr (same_mode-is there mode (not-false (same_mode there mode) fits))

pub attached_at-mode : (interface : ℕ) (hook : Hook) (mode : Mode) → (hook.chain ≡ []) ⊎ (hook.mode ≡ mode) → attached_at interface hook ≡ map (placed interface mode) hook.chain
attached_at-mode interface hook mode fits = elim fits [
  | inl none ↦ ap (map (placed interface hook.mode)) none ∙ sym (ap (map (placed interface mode)) none)
  | inr same ↦ ap (λ m. map (placed interface m) hook.chain) same
]

-- a hook in place of another one
pub get-set_here : (hooks : List Hook) (place : ℕ) (new hook : Hook) → place < length hooks → slice_get (slice_set hooks place new) place ≡ Some hook → hook ≡ new
get-set_here [] place new hook below is = absurd (omega arith)
get-set_here (h ∷ hooks) zero new hook below is = cc
get-set_here (h ∷ hooks) (suc place) new hook below is = get-set_here hooks place new hook (omega arith) is

pub get-set_other : (hooks : List Hook) (place other : ℕ) (new : Hook) → (place == other) ≡ false → slice_get (slice_set hooks place new) other ≡ slice_get hooks other
get-set_other [] place other new apart = refl
get-set_other (h ∷ hooks) zero zero new apart = absurd (grind (arith, nat_tests))
get-set_other (h ∷ hooks) zero (suc other) new apart = refl
get-set_other (h ∷ hooks) (suc place) zero new apart = refl
get-set_other (h ∷ hooks) (suc place) (suc other) new apart = get-set_other hooks place other new (grind (arith, nat_tests))

same_number : (a b : ℕ) → (a == b) ≡ true → a ≡ b
same_number a b same = grind (arith, nat_tests)

-- a state whose hook changed, and whose other members stay, is whole
pub whole-changed : (s t : Inside) (interface : ℕ) (hook new : Hook) → IsWhole s → slice_get s.hooks.items interface ≡ Some hook → t.hooks.items ≡ slice_set s.hooks.items interface new → t.count ≡ s.count + 1 → s.count < 65536
    → AreNumbered t.count (attached_from 0 t.hooks.items)
    → IsChain (map member_of (members_of (view_of t).members interface)) new.chain
    → ((other : ℕ) → (interface == other) ≡ false → members_of (view_of t).members other ≡ members_of (view_of s).members other)
    → IsWhole t
whole-changed s t interface hook new whole is hooks count few numbers chain others = record {
  hooks = ap length hooks ∙ length-set s.hooks.items interface new ∙ whole.hooks;
  numbers = numbers;
  chains = λ other h at. elim (cases_Bool (interface == other)) [
    | inl same ↦
        let here : interface ≡ other = same_number interface other same in
        let at' : slice_get (slice_set s.hooks.items interface new) interface ≡ Some h = rw (← hooks, here) at in
        let is_new : h ≡ new = get-set_here s.hooks.items interface new h (slice_get_within s.hooks.items interface hook is) at' in
        subst (λ i. IsChain (map member_of (members_of (view_of t).members i)) h.chain) here (subst (λ (h : Hook). IsChain (map member_of (members_of (view_of t).members interface)) h.chain) (sym is_new) chain)
    | inr apart ↦
        let old : slice_get s.hooks.items other ≡ Some h = sym (get-set_other s.hooks.items interface other new apart) ∙ ap (λ hs. slice_get hs other) (sym hooks) ∙ at in
        subst (λ ms. IsChain (map member_of ms) h.chain) (sym (others other apart)) (whole.chains other h old)
  ];
  count = omega arith;
}

-- a member that joins its hook
pub record Joins (s : Inside) (interface : ℕ) (mode : Mode) (member : Member) (place : ℕ) (hook new : Hook) : Type 0 where
  pub whole : IsWhole s
  pub here : slice_get s.hooks.items interface ≡ Some hook
  pub number : member.number ≡ s.count + 1
  pub old : attached_at interface hook ≡ map (placed interface mode) hook.chain
  pub chain : new.chain ≡ insert hook.chain place member
  pub same : new.mode ≡ mode

joined_at : (s : Inside) (interface : ℕ) (mode : Mode) (member : Member) (place : ℕ) (hook new : Hook) → Joins s interface mode member place hook new → attached_at interface new ≡ map (placed interface mode) (insert hook.chain place member)
joined_at s interface mode member place hook new joins =
    ap (λ m. map (placed interface m) new.chain) joins.same ∙ ap (map (placed interface mode)) joins.chain

-- a test that the member fails
joined_no : (p : Attached → Bool) (s : Inside) (interface : ℕ) (mode : Mode) (member : Member) (place : ℕ) (hook new : Hook) → Joins s interface mode member place hook new → p (placed interface mode member) ≡ false
    → filter p (attached_from 0 (slice_set s.hooks.items interface new)) ≡ filter p (attached_from 0 s.hooks.items)
joined_no p s interface mode member place hook new joins fails =
    filter-set p interface 0 interface s.hooks.items hook new (omega arith) joins.here
    (ap (filter p) (joined_at s interface mode member place hook new joins) ∙ filter-insert_no p (placed interface mode) hook.chain place member fails ∙ sym (ap (filter p) joins.old))

-- a test that the member alone passes
joined_one : (p : Attached → Bool) (s : Inside) (interface : ℕ) (mode : Mode) (member : Member) (place : ℕ) (hook new : Hook) → Joins s interface mode member place hook new → p (placed interface mode member) ≡ true
    → filter p (attached_from 0 s.hooks.items) ≡ [] → filter p (attached_from 0 (slice_set s.hooks.items interface new)) ≡ placed interface mode member ∷ []
joined_one p s interface mode member place hook new joins holds none =
    let there : filter p (map (placed interface mode) hook.chain) ≡ [] =
    sym (ap (filter p) joins.old) ∙ sym (ap (filter p) (on-from interface 0 interface s.hooks.items hook (omega arith) joins.here))
    ∙ filter-swap p (λ a. a.interface == interface) (attached_from 0 s.hooks.items) ∙ ap (filter (λ a. a.interface == interface)) none in
    filter-set_one p interface 0 interface s.hooks.items hook new (placed interface mode member) (omega arith) joins.here none
    (ap (filter p) (joined_at s interface mode member place hook new joins) ∙ filter-insert_one p (placed interface mode) hook.chain place member holds there)

joined-numbers : (s : Inside) (interface : ℕ) (mode : Mode) (member : Member) (place : ℕ) (hook new : Hook) → Joins s interface mode member place hook new → AreNumbered (s.count + 1) (attached_from 0 (slice_set s.hooks.items interface new))
joined-numbers s interface mode member place hook new joins =
    let n = joins.number in
    joined_no (λ a. nat_lt (s.count + 1) (number_of a)) s interface mode member place hook new joins (grind (arith, nat_tests))
    ∙ numbered-more s.count (attached_from 0 s.hooks.items) joins.whole.numbers

pub in_order-joined : (s : Inside) (interface : ℕ) (mode : Mode) (member : Member) (place : ℕ) (hook new : Hook) → Joins s interface mode member place hook new
    → in_order (attached_from 0 (slice_set s.hooks.items interface new)) (s.count + 1) ≡ in_order (attached_from 0 s.hooks.items) s.count ++ placed interface mode member ∷ []
in_order-joined s interface mode member place hook new joins =
    let n = joins.number in
    let xs = attached_from 0 (slice_set s.hooks.items interface new) in
    let same : by_key number_of 1 s.count xs ≡ by_key number_of 1 s.count (attached_from 0 s.hooks.items) =
    by_key-agree number_of 1 s.count xs (attached_from 0 s.hooks.items) (λ k below. joined_no (λ a. number_of a == k) s interface mode member place hook new joins (grind (arith, nat_tests))) in
    let last : filter (λ a. number_of a == 1 + s.count) xs ≡ placed interface mode member ∷ [] =
    joined_one (λ a. number_of a == 1 + s.count) s interface mode member place hook new joins (grind (arith, nat_tests)) (numbered-key s.count (1 + s.count) (attached_from 0 s.hooks.items) joins.whole.numbers (omega arith)) in
    rw add-one (by_key-more number_of 1 s.count xs ∙ ap (λ ys. ys ++ filter (λ a. number_of a == 1 + s.count) xs) same ∙ ap (λ ys. in_order (attached_from 0 s.hooks.items) s.count ++ ys) last)

-- the members of each interface when one is behind the others
members_of-push : (members : List Attached) (interface : ℕ) (mode : Mode) (member : Member) → map member_of (members_of (members ++ placed interface mode member ∷ []) interface) ≡ map member_of (members_of members interface) ++ member ∷ []
members_of-push members interface mode member =
    let here : (interface == interface) ≡ true = grind (arith, nat_tests) in
    let last : members_of (placed interface mode member ∷ []) interface ≡ placed interface mode member ∷ [] = rw here refl in
    ap (map member_of) (filter-append (λ a. a.interface == interface) members (placed interface mode member ∷ []))
    ∙ map-append member_of (members_of members interface) (members_of (placed interface mode member ∷ []) interface)
    ∙ ap (λ ys. map member_of (members_of members interface) ++ map member_of ys) last

members_of-push_other : (members : List Attached) (interface other : ℕ) (mode : Mode) (member : Member) → (interface == other) ≡ false → members_of (members ++ placed interface mode member ∷ []) other ≡ members_of members other
members_of-push_other members interface other mode member apart =
    let last : members_of (placed interface mode member ∷ []) other ≡ [] = rw apart refl in
    filter-append (λ a. a.interface == other) members (placed interface mode member ∷ [])
    ∙ append-none (members_of members other) (members_of (placed interface mode member ∷ []) other) last

pub whole-joined : (s t : Inside) (interface : ℕ) (mode : Mode) (member : Member) (place : ℕ) (hook new : Hook) → Joins s interface mode member place hook new → s.count < 65536 → t.hooks.items ≡ slice_set s.hooks.items interface new → t.count ≡ s.count + 1
    → ((members : List Member) → IsChain members hook.chain → IsChain (members ++ member ∷ []) new.chain) → IsWhole t
whole-joined s t interface mode member place hook new joins few hooks count chains =
    let view : (view_of t).members ≡ (view_of s).members ++ placed interface mode member ∷ [] = rw (hooks, count) (in_order-joined s interface mode member place hook new joins) in
    whole-changed s t interface hook new joins.whole joins.here hooks count few
    (rw (hooks, count) (joined-numbers s interface mode member place hook new joins))
    (rw (view, members_of-push (view_of s).members interface mode member) (chains _ (joins.whole.chains interface hook joins.here)))
    (λ other apart. rw view (members_of-push_other (view_of s).members interface other mode member apart))

-- members that leave their hook
pub record Leaves (s : Inside) (interface : ℕ) (leaves : Member → Bool) (hook new : Hook) : Type 0 where
  pub whole : IsWhole s
  pub here : slice_get s.hooks.items interface ≡ Some hook
  pub left : attached_at interface new ≡ map (placed interface hook.mode) (filter (λ m. not (leaves m)) hook.chain)

left-all : (s : Inside) (interface : ℕ) (leaves : Member → Bool) (hook new : Hook) → Leaves s interface leaves hook new → attached_from 0 (slice_set s.hooks.items interface new) ≡ filter (stays interface leaves) (attached_from 0 s.hooks.items)
left-all s interface leaves hook new leave =
    attached-leave interface 0 interface leaves s.hooks.items hook new (omega arith) leave.here (leave.left ∙ sym (leave-placed interface hook.mode leaves hook.chain))

left-numbers : (s : Inside) (interface : ℕ) (leaves : Member → Bool) (hook new : Hook) → Leaves s interface leaves hook new → AreNumbered s.count (attached_from 0 (slice_set s.hooks.items interface new))
left-numbers s interface leaves hook new leave =
    let p : Attached → Bool = λ a. nat_lt s.count (number_of a) in
    ap (filter p) (left-all s interface leaves hook new leave) ∙ filter-swap p (stays interface leaves) (attached_from 0 s.hooks.items) ∙ ap (filter (stays interface leaves)) leave.whole.numbers

pub in_order-left : (s : Inside) (interface : ℕ) (leaves : Member → Bool) (hook new : Hook) → Leaves s interface leaves hook new
    → in_order (attached_from 0 (slice_set s.hooks.items interface new)) (s.count + 1) ≡ filter (stays interface leaves) (in_order (attached_from 0 s.hooks.items) s.count)
in_order-left s interface leaves hook new leave =
    in_order-more (attached_from 0 (slice_set s.hooks.items interface new)) s.count (left-numbers s interface leaves hook new leave)
    ∙ ap (λ xs. in_order xs s.count) (left-all s interface leaves hook new leave)
    ∙ sym (filter-by_key number_of (stays interface leaves) 1 s.count (attached_from 0 s.hooks.items))

members_of-left : (members : List Attached) (interface : ℕ) (leaves : Member → Bool) → map member_of (members_of (filter (stays interface leaves) members) interface) ≡ filter (λ m. not (leaves m)) (map member_of (members_of members interface))
members_of-left [] interface leaves = refl
members_of-left (a ∷ members) interface leaves =
    elim (cases_Bool (a.interface == interface)) [
      | inl on ↦
          elim (cases_Bool (leaves a.member)) [
            | inl off ↦ rw (on, off) (members_of-left members interface leaves)
            | inr off ↦ rw (on, off, on) (ap (λ ms. a.member ∷ ms) (members_of-left members interface leaves))
          ]
      | inr on ↦ rw (on, on) (members_of-left members interface leaves)
    ]

members_of-left_other : (members : List Attached) (interface other : ℕ) (leaves : Member → Bool) → (interface == other) ≡ false → members_of (filter (stays interface leaves) members) other ≡ members_of members other
members_of-left_other [] interface other leaves apart = refl
members_of-left_other (a ∷ members) interface other leaves apart =
    elim (cases_Bool (a.interface == interface)) [
      | inl on ↦
          elim (cases_Bool (leaves a.member)) [
            | inl off ↦
                let elsewhere : (a.interface == other) ≡ false = grind (arith, nat_tests) in
                rw (on, off, elsewhere) (members_of-left_other members interface other leaves apart)
            | inr off ↦ rw (on, off) (ap (λ ms. cond (a.interface == other) (a ∷ ms) ms) (members_of-left_other members interface other leaves apart))
          ]
      | inr on ↦ rw on (ap (λ ms. cond (a.interface == other) (a ∷ ms) ms) (members_of-left_other members interface other leaves apart))
    ]

pub whole-left : (s t : Inside) (interface : ℕ) (leaves : Member → Bool) (hook new : Hook) → Leaves s interface leaves hook new → s.count < 65536 → t.hooks.items ≡ slice_set s.hooks.items interface new → t.count ≡ s.count + 1
    → ((members : List Member) → IsChain members hook.chain → IsChain (filter (λ m. not (leaves m)) members) new.chain) → IsWhole t
whole-left s t interface leaves hook new leave few hooks count chains =
    let view : (view_of t).members ≡ filter (stays interface leaves) (view_of s).members = rw (hooks, count) (in_order-left s interface leaves hook new leave) in
    let numbers : AreNumbered (s.count + 1) (attached_from 0 (slice_set s.hooks.items interface new)) = numbered-more s.count _ (left-numbers s interface leaves hook new leave) in
    whole-changed s t interface hook new leave.whole leave.here hooks count few
    (rw (hooks, count) numbers)
    (rw (view, members_of-left (view_of s).members interface leaves) (chains _ (leave.whole.chains interface hook leave.here)))
    (λ other apart. rw view (members_of-left_other (view_of s).members interface other leaves apart))

-- a publication that changes no member
pub whole-more : (s t : Inside) → IsWhole s → t.hooks.items ≡ s.hooks.items → t.count ≡ s.count + 1 → s.count < 65536 → IsWhole t
whole-more s t whole hooks count few =
    let view : (view_of t).members ≡ (view_of s).members = rw (hooks, count) (in_order-more (attached_from 0 s.hooks.items) s.count whole.numbers) in
    record {
      hooks = ap length hooks ∙ whole.hooks;
      numbers = rw (hooks, count) (numbered-more s.count (attached_from 0 s.hooks.items) whole.numbers);
      chains = λ interface hook is. rw view (whole.chains interface hook (ap (λ hs. slice_get hs interface) (sym hooks) ∙ is));
      count = omega arith;
    }

-- without its members
pub members_off-is : (members : List Attached) (interface : ℕ) → filter (stays interface (λ m. true)) members ≡ members_off members interface
members_off-is members interface = filter_agree (stays interface (λ m. true)) (λ a. not (a.interface == interface)) (λ a. grind (arith, nat_tests)) members

pub none_stay : (ms : List Member) → filter (λ m. not true) ms ≡ []
none_stay [] = refl
none_stay (m ∷ ms) = none_stay ms

-- the next number is new on each interface
none-any : (p : Attached → Bool) (f : Member → Attached) (ms : List Member) → filter p (map f ms) ≡ [] → list_any (λ m. p (f m)) ms ≡ false
none-any p f [] none = refl
none-any p f (m ∷ ms) none =
    elim (cases_Bool (p (f m))) [
      | inl h ↦ absurd (let some = rw h at none in cc)
      | inr h ↦ rw h (none-any p f ms (rw h at none))
    ]

pub number-new : (s : Inside) (interface number : ℕ) (hook : Hook) → IsWhole s → slice_get s.hooks.items interface ≡ Some hook → number ≡ s.count + 1 → has_number hook.chain number ≡ false
number-new s interface number hook whole here next =
    let p : Attached → Bool = λ a. number_of a == number in
    let none : filter p (attached_from 0 s.hooks.items) ≡ [] = numbered-key s.count number (attached_from 0 s.hooks.items) whole.numbers (omega arith) in
    none-any p (placed interface hook.mode) hook.chain
    (sym (ap (filter p) (on-from interface 0 interface s.hooks.items hook (omega arith) here))
    ∙ filter-swap p (λ a. a.interface == interface) (attached_from 0 s.hooks.items) ∙ ap (filter (λ a. a.interface == interface)) none)
