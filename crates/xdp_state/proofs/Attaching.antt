-- A state before any change, and what its functions make of one hook.
use Rattle.std.proofs.Common.{◌≡◌, ℕ, zero, suc, ◌+◌, ◌<◌, Bool, true, false, not, cond, ◌&&◌, nat_lt, List, [], ◌∷◌, ◌++◌, length, map, replicate, refl, sym, ap, ◌∙◌, inl, inr, subst, slice_get, slice_set, Some, None, Result, Ok, Err, OnOk, OnErr, IsErr, ◌↔◌, arith}
use Rattle.std.specs.Prelude.{Option, ◌==◌, filter, count_by, slice_index_or}
use Rattle.std.specs.List.{list_any}
use Rattle.std.specs.Bool.{then_some}
use Rattle.std.proofs.lemmas.Bool.{cases_Bool}
use Rattle.std.proofs.lemmas.Bool.Decides.{nat_tests}
use Rattle.std.proofs.lemmas.Option.{slice_get_read}
use Rattle.chain_order.specs.Chain.{IsChain, without}
use Rattle.chain_order.specs.Member.{has_number}
use Rattle.chain_order.specs.Sorted.{by_key}
use Rattle.chain_order.specs.declared.member.Kind.{Kind}
use Rattle.chain_order.specs.declared.member.Member.{Member}
use Rattle.chain_order.proofs.Chains.{count-cons}
use Rattle.filter_rules.specs.declared.rule.RuleRow.{RuleRow}
use Rattle.xdp_state.specs.Book.{empty, has_place}
use Rattle.xdp_state.specs.Members.{Attached, chain_on, differs, has_filter, is_filter, members_off, mode_on}
use Rattle.xdp_state.specs.State.{IsWhole, attached_at, attached_from, in_order, view_of}
use Rattle.xdp_state.specs.declared.hook.Hook.{Hook}
use Rattle.xdp_state.specs.declared.mode.Mode.{Mode}
use Rattle.xdp_state.specs.declared.mode.Mode.TheVariants.{Native}
use Rattle.xdp_state.specs.declared.state.State.TheInside.{Inside}
use Rattle.xdp_state.proofs.Hooks.{placed, stays}
use Rattle.xdp_state.proofs.Views.{Joins, Leaves, attached_at-mode, chain_on-view, in_order-joined, in_order-left, members_off-is, mode_fits, mode_if, mode_on-view, none_stay, whole-joined, whole-left}

-- before any change
abbrev pub first_hook : Hook
first_hook = record { chain = []; mode = Native }

none_attached : (n first : ℕ) → attached_from first (replicate n first_hook) ≡ []
none_attached zero first = refl
none_attached (suc n) first = none_attached n (first + 1)

replicated : (n place : ℕ) (hook : Hook) → slice_get (replicate n first_hook) place ≡ Some hook → hook ≡ first_hook
replicated zero place hook is = absurd cc
replicated (suc n) zero hook is = cc
replicated (suc n) (suc place) hook is = replicated n place hook is

none_in_order : in_order [] 0 ≡ []
unfolding by_key
none_in_order = refl

no_chain : IsChain [] []
no_chain = record { same = λ passes. refl; placed = λ place member is. absurd cc }

in_order-new : (hooks : List Hook) → hooks ≡ replicate 8 first_hook → in_order (attached_from 0 hooks) 0 ≡ []
in_order-new hooks is = ap (λ hs. in_order (attached_from 0 hs) 0) is ∙ ap (λ xs. in_order xs 0) (none_attached 8 0) ∙ none_in_order

pub whole-new : (s : Inside) → s.hooks.items ≡ replicate 8 first_hook → s.count ≡ 0 → IsWhole s
whole-new s hooks count =
    let none : (view_of s).members ≡ [] = rw count (in_order-new s.hooks.items hooks) in
    let attached : attached_from 0 s.hooks.items ≡ [] = ap (attached_from 0) hooks ∙ none_attached 8 0 in
    record {
      hooks = ap length hooks;
      numbers = rw attached refl;
      chains = λ interface hook is.
          let first : hook ≡ first_hook = replicated 8 interface hook (ap (λ hs. slice_get hs interface) (sym hooks) ∙ is) in
          rw (none, first) no_chain;
      count = omega arith;
    }

pub view-new : (hooks : List Hook) (rules : List RuleRow) (dumps : List (Option ℕ)) → hooks ≡ replicate 8 first_hook → rules ≡ [] → dumps ≡ replicate 8 None → record { members = in_order (attached_from 0 hooks) 0; rows = rules; dumps = dumps; count = 0 } ≡ empty
view-new hooks rules dumps is none off = rw (none, off, in_order-new hooks is) refl

-- a state of the same hooks
pub whole-same : (s t : Inside) → IsWhole s → t.hooks.items ≡ s.hooks.items → t.count ≡ s.count → IsWhole t
whole-same s t whole hooks count = record {
  hooks = ap length hooks ∙ whole.hooks;
  numbers = rw (hooks, count) whole.numbers;
  chains = λ interface hook is. rw (hooks, count) (whole.chains interface hook (ap (λ hs. slice_get hs interface) (sym hooks) ∙ is));
  count = rw count whole.count;
}

-- a mode where there is a member
pub then_mode : (chain : List Member) (mode : Mode) → then_some (nat_lt 0 (length chain)) mode ≡ mode_if chain mode
then_mode [] mode = refl
then_mode (m ∷ ms) mode = let some : nat_lt 0 (length (m ∷ ms)) ≡ true = grind (arith, nat_tests) in rw some refl

-- what a place for a member means for its hook
parts : (a b c : Bool) → (a && not b && not c) ≡ true → (a ≡ true) × (b ≡ false)
parts true true c h = absurd cc
parts true false true h = absurd cc
parts true false false h = (refl, refl)
parts false b c h = absurd cc

pub room_at : (s : Inside) (interface : ℕ) (kind : Kind) (mode : Mode) (hook : Hook) → IsWhole s → slice_get s.hooks.items interface ≡ Some hook → has_place (view_of s).members interface kind mode ≡ true
    → (length hook.chain < 10) × (attached_at interface hook ≡ map (placed interface mode) hook.chain)
room_at s interface kind mode hook whole here place =
    let ms = (view_of s).members in
    let both = parts (nat_lt (length (chain_on ms interface)) 10) (differs (mode_on ms interface) mode) (is_filter kind && has_filter (chain_on ms interface)) place in
    let few : length (chain_on ms interface) < 10 = (let below = both.0 in grind (arith, nat_tests)) in
    let long : length hook.chain ≡ length (chain_on ms interface) = ap length (chain_on-view s interface hook whole here) in
    let fits : differs (mode_if hook.chain hook.mode) mode ≡ false = subst (λ m. differs m mode ≡ false) (mode_on-view s interface hook whole here) both.1 in
    (omega (arith, long, few), attached_at-mode interface hook mode (mode_fits hook.chain hook.mode mode fits))

-- what an insert says where there is room
pub has_room : {A B : Type 0} {P : Type 0} (r : Result A B) (long : ℕ) → (IsErr r ↔ (long ≡ 10)) → long < 10 → OnOk r P → P
has_room (Ok a) long full room ok = ok
has_room (Err b) long full room ok = absurd (let many : long ≡ 10 = full.0 refl in omega arith)

-- the state with one more member
pub record Attach (s : Inside) (interface : ℕ) (mode : Mode) (member : Member) (place : ℕ) (hook new : Hook) : Type 0 where
  pub joins : Joins s interface mode member place hook new
  pub few : s.count < 65536
  pub chain : (members : List Member) → IsChain members hook.chain → IsChain (members ++ member ∷ []) new.chain

pub whole-attach : (s t : Inside) (interface : ℕ) (mode : Mode) (member : Member) (place : ℕ) (hook new : Hook) → Attach s interface mode member place hook new → t.hooks.items ≡ slice_set s.hooks.items interface new → t.count ≡ s.count + 1 → IsWhole t
whole-attach s t interface mode member place hook new a hooks count = whole-joined s t interface mode member place hook new a.joins a.few hooks count a.chain

pub view-attach : (s : Inside) (interface : ℕ) (mode : Mode) (member : Member) (place : ℕ) (hook new : Hook) (hooks : List Hook) → Attach s interface mode member place hook new → hooks ≡ slice_set s.hooks.items interface new
    → record { members = in_order (attached_from 0 hooks) (s.count + 1); rows = s.rules; dumps = s.dumps; count = s.count + 1 } ≡ record (view_of s) { members = (view_of s).members ++ placed interface mode member ∷ []; count = s.count + 1 }
view-attach s interface mode member place hook new hooks a is =
    rw (is, in_order-joined s interface mode member place hook new a.joins) refl

-- members that no test finds
abbrev bit : Bool → ℕ
bit b = cond b 1 0

count-none : (p : Member → Bool) (xs : List Member) → list_any p xs ≡ false → count_by p xs ≡ 0
count-none p [] none = refl
count-none p (x ∷ xs) none =
    elim (cases_Bool (p x)) [
      | inl h ↦ absurd (let some = rw h at none in cc)
      | inr h ↦ let first : bit (p x) ≡ 0 = ap bit h in omega (arith, count-cons p x xs, first, count-none p xs (rw h at none))
    ]

none-count : (p : Member → Bool) (xs : List Member) → count_by p xs ≡ 0 → list_any p xs ≡ false
none-count p [] none = refl
none-count p (x ∷ xs) none =
    elim (cases_Bool (p x)) [
      | inl h ↦ absurd (let first : bit (p x) ≡ 1 = ap bit h in omega (arith, count-cons p x xs, first, none))
      | inr h ↦ rw h (none-count p xs (omega (arith, count-cons p x xs, none)))
    ]

without-none : (number : ℕ) (xs : List Member) → has_number xs number ≡ false → without number xs ≡ xs
without-none number [] none = refl
without-none number (x ∷ xs) none =
    elim (cases_Bool (x.number == number)) [
      | inl h ↦ absurd (let some = rw h at none in cc)
      | inr h ↦ rw h (ap (λ ys. x ∷ ys) (without-none number xs (rw h at none)))
    ]

-- what a remove leaves, whether there is the number or not
pub taken : {A B : Type 0} (r : Result A B) (number : ℕ) (old new : List Member) → OnOk r (new ≡ without number old) → (IsErr r ↔ (has_number old number ≡ false)) → OnErr r (new ≡ old) → new ≡ without number old
taken (Ok a) number old new ok none err = ok
taken (Err b) number old new ok none err = err ∙ sym (without-none number old (none.0 refl))

pub taken_chain : {A B : Type 0} (r : Result A B) (number : ℕ) (members old new : List Member) → OnOk r (IsChain (without number members) new) → (IsErr r ↔ (has_number old number ≡ false)) → OnErr r (new ≡ old) → IsChain members old → IsChain (without number members) new
taken_chain (Ok a) number members old new ok none err is = ok
taken_chain (Err b) number members old new ok none err is =
    let has : Member → Bool = λ member. member.number == number in
    let gone : has_number members number ≡ false = none-count has members (sym (is.same has) ∙ count-none has old (none.0 refl)) in
    rw (err, without-none number members gone) is

-- the state without some members of one interface
pub record Detach (s : Inside) (interface : ℕ) (leaves : Member → Bool) (hook new : Hook) : Type 0 where
  pub leave : Leaves s interface leaves hook new
  pub few : s.count < 65536
  pub chain : (members : List Member) → IsChain members hook.chain → IsChain (filter (λ m. not (leaves m)) members) new.chain

pub whole-detach : (s t : Inside) (interface : ℕ) (leaves : Member → Bool) (hook new : Hook) → Detach s interface leaves hook new → t.hooks.items ≡ slice_set s.hooks.items interface new → t.count ≡ s.count + 1 → IsWhole t
whole-detach s t interface leaves hook new d hooks count = whole-left s t interface leaves hook new d.leave d.few hooks count d.chain

pub view-detach : (s : Inside) (interface : ℕ) (leaves : Member → Bool) (hook new : Hook) (hooks : List Hook) (rows left : List RuleRow) → Detach s interface leaves hook new → hooks ≡ slice_set s.hooks.items interface new → rows ≡ left
    → record { members = in_order (attached_from 0 hooks) (s.count + 1); rows = rows; dumps = s.dumps; count = s.count + 1 } ≡ record (view_of s) { members = filter (stays interface leaves) (view_of s).members; rows = left; count = s.count + 1 }
view-detach s interface leaves hook new hooks rows left d is same = rw (is, same, in_order-left s interface leaves hook new d.leave) refl

-- the member of a number, and all members
pub leave-number : (s : Inside) (interface number : ℕ) (hook : Hook) (chain : List Member) → IsWhole s → slice_get s.hooks.items interface ≡ Some hook → chain ≡ without number hook.chain
    → Leaves s interface (λ m. m.number == number) hook (record hook { chain = chain })
leave-number s interface number hook chain whole here left = record {
  whole = whole;
  here = here;
  left = ap (map (placed interface hook.mode)) left;
}

pub leave-all : (s : Inside) (interface : ℕ) (hook : Hook) → IsWhole s → slice_get s.hooks.items interface ≡ Some hook → Leaves s interface (λ m. true) hook first_hook
leave-all s interface hook whole here = record {
  whole = whole;
  here = here;
  left = sym (ap (map (placed interface hook.mode)) (none_stay hook.chain));
}

pub chain-all : (members chain : List Member) → IsChain members chain → IsChain (filter (λ m. not true) members) []
chain-all members chain is = rw (none_stay members) no_chain

pub view-all : (s : Inside) (interface : ℕ) (hook : Hook) (hooks : List Hook) → Detach s interface (λ m. true) hook first_hook → hooks ≡ slice_set s.hooks.items interface first_hook
    → record { members = in_order (attached_from 0 hooks) (s.count + 1); rows = s.rules; dumps = s.dumps; count = s.count + 1 } ≡ record (view_of s) { members = members_off (view_of s).members interface; count = s.count + 1 }
view-all s interface hook hooks d is =
    view-detach s interface (λ m. true) hook first_hook hooks s.rules s.rules d is refl
    ∙ ap (λ (members : List Attached). record (view_of s) { members = members; count = s.count + 1 }) (members_off-is (view_of s).members interface)

-- the hook that is lent
pub hook_at : (s : Inside) (interface : ℕ) (hook : Hook) → IsWhole s → interface < 8 → hook ≡ slice_index_or s.hooks.items interface hook → slice_get s.hooks.items interface ≡ Some hook
hook_at s interface hook whole below is = slice_get_read s.hooks.items 8 interface hook (sym whole.hooks) below is
