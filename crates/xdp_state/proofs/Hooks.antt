-- The members of hooks, as one of the hooks changes.
use Rattle.std.proofs.Common.{◌≡◌, ℕ, zero, suc, ◌+◌, ◌<◌, Bool, true, false, not, cond, List, [], ◌∷◌, ◌++◌, map, refl, sym, ap, ◌∙◌, inl, inr, slice_get, slice_set, Some, arith}
use Rattle.std.specs.Prelude.{◌==◌, ◌&&◌, filter, insert}
use Rattle.std.proofs.lemmas.Bool.{cases_Bool}
use Rattle.std.proofs.lemmas.Bool.Decides.{nat_tests}
use Rattle.std.proofs.lemmas.List.Elements.{filter-append}
use Rattle.std.proofs.lemmas.Option.{same_Some}
use Rattle.chain_order.specs.declared.member.Member.{Member}
use Rattle.xdp_state.specs.Members.{Attached}
use Rattle.xdp_state.specs.State.{attached_at, attached_from}
use Rattle.xdp_state.specs.declared.hook.Hook.{Hook}
use Rattle.xdp_state.specs.declared.mode.Mode.{Mode}

-- a member with its interface and mode
abbrev pub placed : ℕ → Mode → Member → Attached
placed interface mode member = record { interface = interface; mode = mode; member = member }

-- the members but those of one interface that pass
abbrev pub stays : ℕ → (Member → Bool) → Attached → Bool
stays interface leaves a = not ((a.interface == interface) && leaves a.member)

-- those of an interface
on-placed : (interface : ℕ) (mode : Mode) (ms : List Member) → filter (λ a. a.interface == interface) (map (placed interface mode) ms) ≡ map (placed interface mode) ms
on-placed interface mode [] = refl
on-placed interface mode (m ∷ ms) =
    let here : (interface == interface) ≡ true = grind (arith, nat_tests) in
    rw here (ap (λ ys. placed interface mode m ∷ ys) (on-placed interface mode ms))

off-placed : (interface other : ℕ) (mode : Mode) (ms : List Member) → (other == interface) ≡ false → filter (λ a. a.interface == interface) (map (placed other mode) ms) ≡ []
off-placed interface other mode [] apart = refl
off-placed interface other mode (m ∷ ms) apart = rw apart (off-placed interface other mode ms apart)

none-from : (interface first : ℕ) (hooks : List Hook) → interface < first → filter (λ a. a.interface == interface) (attached_from first hooks) ≡ []
none-from interface first [] below = refl
none-from interface first (hook ∷ hooks) below =
    let apart : (first == interface) ≡ false = grind (arith, nat_tests) in
    filter-append (λ a. a.interface == interface) (attached_at first hook) (attached_from (first + 1) hooks)
    ∙ ap (λ ys. ys ++ filter (λ a. a.interface == interface) (attached_from (first + 1) hooks)) (off-placed interface first hook.mode hook.chain apart)
    ∙ none-from interface (first + 1) hooks (omega arith)

pub append-none : {A : Type 0} (xs ys : List A) → ys ≡ [] → xs ++ ys ≡ xs
append-none [] ys none = none
append-none (x ∷ xs) ys none = ap (λ zs. x ∷ zs) (append-none xs ys none)

pub on-from : (interface first place : ℕ) (hooks : List Hook) (hook : Hook) → interface ≡ first + place → slice_get hooks place ≡ Some hook → filter (λ a. a.interface == interface) (attached_from first hooks) ≡ attached_at interface hook
on-from interface first place [] hook at is = absurd cc
on-from interface first zero (h ∷ hooks) hook at is =
    let same : h ≡ hook = same_Some h hook is in
    let here : interface ≡ first = omega arith in
    filter-append (λ a. a.interface == interface) (attached_at first h) (attached_from (first + 1) hooks)
    ∙ append-none (filter (λ a. a.interface == interface) (attached_at first h)) _ (none-from interface (first + 1) hooks (omega arith))
    ∙ ap (λ i. filter (λ a. a.interface == interface) (attached_at i h)) (sym here)
    ∙ on-placed interface h.mode h.chain
    ∙ ap (attached_at interface) same
on-from interface first (suc place) (h ∷ hooks) hook at is =
    let apart : (first == interface) ≡ false = grind (arith, nat_tests) in
    filter-append (λ a. a.interface == interface) (attached_at first h) (attached_from (first + 1) hooks)
    ∙ ap (λ ys. ys ++ filter (λ a. a.interface == interface) (attached_from (first + 1) hooks)) (off-placed interface first h.mode h.chain apart)
    ∙ on-from interface (first + 1) place hooks hook (omega arith) is

-- a test sees a change of one hook only there
pub filter-set : (p : Attached → Bool) (interface first place : ℕ) (hooks : List Hook) (hook new : Hook) → interface ≡ first + place → slice_get hooks place ≡ Some hook → filter p (attached_at interface new) ≡ filter p (attached_at interface hook) → filter p (attached_from first (slice_set hooks place new)) ≡ filter p (attached_from first hooks)
filter-set p interface first place [] hook new at is same = absurd cc
filter-set p interface first zero (h ∷ hooks) hook new at is same =
    let old : h ≡ hook = same_Some h hook is in
    let here : interface ≡ first = omega arith in
    let part : filter p (attached_at first new) ≡ filter p (attached_at first h) = rw (← here, old) same in
    filter-append p (attached_at first new) (attached_from (first + 1) hooks)
    ∙ ap (λ ys. ys ++ filter p (attached_from (first + 1) hooks)) part
    ∙ sym (filter-append p (attached_at first h) (attached_from (first + 1) hooks))
filter-set p interface first (suc place) (h ∷ hooks) hook new at is same =
    filter-append p (attached_at first h) (attached_from (first + 1) (slice_set hooks place new))
    ∙ ap (λ ys. filter p (attached_at first h) ++ ys) (filter-set p interface (first + 1) place hooks hook new (omega arith) is same)
    ∙ sym (filter-append p (attached_at first h) (attached_from (first + 1) hooks))

none_both : {A : Type 0} (xs ys : List A) → xs ++ ys ≡ [] → (xs ≡ []) × (ys ≡ [])
none_both [] ys none = (refl, none)
none_both (x ∷ xs) ys none = absurd cc

-- what only the new hook has
pub filter-set_one : (p : Attached → Bool) (interface first place : ℕ) (hooks : List Hook) (hook new : Hook) (a : Attached) → interface ≡ first + place → slice_get hooks place ≡ Some hook → filter p (attached_from first hooks) ≡ [] → filter p (attached_at interface new) ≡ a ∷ [] → filter p (attached_from first (slice_set hooks place new)) ≡ a ∷ []
filter-set_one p interface first place [] hook new a at is none one = absurd cc
filter-set_one p interface first zero (h ∷ hooks) hook new a at is none one =
    let here : interface ≡ first = omega arith in
    let both = none_both (filter p (attached_at first h)) (filter p (attached_from (first + 1) hooks)) (sym (filter-append p (attached_at first h) (attached_from (first + 1) hooks)) ∙ none) in
    let part : filter p (attached_at first new) ≡ a ∷ [] = rw (← here) one in
    filter-append p (attached_at first new) (attached_from (first + 1) hooks)
    ∙ ap (λ ys. ys ++ filter p (attached_from (first + 1) hooks)) part
    ∙ ap (λ ys. a ∷ ys) both.1
filter-set_one p interface first (suc place) (h ∷ hooks) hook new a at is none one =
    let both = none_both (filter p (attached_at first h)) (filter p (attached_from (first + 1) hooks)) (sym (filter-append p (attached_at first h) (attached_from (first + 1) hooks)) ∙ none) in
    filter-append p (attached_at first h) (attached_from (first + 1) (slice_set hooks place new))
    ∙ ap (λ ys. ys ++ filter p (attached_from (first + 1) (slice_set hooks place new))) both.0
    ∙ filter-set_one p interface (first + 1) place hooks hook new a (omega arith) is both.1 one

-- a member more, for a test that it fails, and for one that it alone passes
pub filter-insert_no : {A : Type 0} (p : A → Bool) (f : Member → A) (ms : List Member) (place : ℕ) (m : Member) → p (f m) ≡ false → filter p (map f (insert ms place m)) ≡ filter p (map f ms)
filter-insert_no p f [] zero m fails = rw fails refl
filter-insert_no p f [] (suc place) m fails = rw fails refl
filter-insert_no p f (x ∷ ms) zero m fails = rw fails refl
filter-insert_no p f (x ∷ ms) (suc place) m fails = ap (λ ys. cond (p (f x)) (f x ∷ ys) ys) (filter-insert_no p f ms place m fails)

pub filter-insert_one : {A : Type 0} (p : A → Bool) (f : Member → A) (ms : List Member) (place : ℕ) (m : Member) → p (f m) ≡ true → filter p (map f ms) ≡ [] → filter p (map f (insert ms place m)) ≡ f m ∷ []
filter-insert_one p f [] zero m holds none = rw holds refl
filter-insert_one p f [] (suc place) m holds none = rw holds refl
filter-insert_one p f (x ∷ ms) zero m holds none = rw holds (ap (λ ys. f m ∷ ys) none)
filter-insert_one p f (x ∷ ms) (suc place) m holds none =
    elim (cases_Bool (p (f x))) [
      | inl h ↦ absurd (let some = rw h at none in cc)
      | inr h ↦ rw h (filter-insert_one p f ms place m holds (rw h at none))
    ]

-- members that leave one interface
stay-placed : (interface other : ℕ) (mode : Mode) (leaves : Member → Bool) (ms : List Member) → (other == interface) ≡ false → filter (stays interface leaves) (map (placed other mode) ms) ≡ map (placed other mode) ms
stay-placed interface other mode leaves [] apart = refl
stay-placed interface other mode leaves (m ∷ ms) apart = rw apart (ap (λ ys. placed other mode m ∷ ys) (stay-placed interface other mode leaves ms apart))

stay-from : (interface first : ℕ) (leaves : Member → Bool) (hooks : List Hook) → interface < first → filter (stays interface leaves) (attached_from first hooks) ≡ attached_from first hooks
stay-from interface first leaves [] below = refl
stay-from interface first leaves (hook ∷ hooks) below =
    let apart : (first == interface) ≡ false = grind (arith, nat_tests) in
    filter-append (stays interface leaves) (attached_at first hook) (attached_from (first + 1) hooks)
    ∙ ap (λ ys. ys ++ filter (stays interface leaves) (attached_from (first + 1) hooks)) (stay-placed interface first hook.mode leaves hook.chain apart)
    ∙ ap (λ ys. attached_at first hook ++ ys) (stay-from interface (first + 1) leaves hooks (omega arith))

pub leave-placed : (interface : ℕ) (mode : Mode) (leaves : Member → Bool) (ms : List Member) → filter (stays interface leaves) (map (placed interface mode) ms) ≡ map (placed interface mode) (filter (λ m. not (leaves m)) ms)
leave-placed interface mode leaves [] = refl
leave-placed interface mode leaves (m ∷ ms) =
    let here : (interface == interface) ≡ true = grind (arith, nat_tests) in
    elim (cases_Bool (leaves m)) [
      | inl h ↦ rw (here, h) (leave-placed interface mode leaves ms)
      | inr h ↦ rw (here, h) (ap (λ ys. placed interface mode m ∷ ys) (leave-placed interface mode leaves ms))
    ]

pub attached-leave : (interface first place : ℕ) (leaves : Member → Bool) (hooks : List Hook) (hook new : Hook) → interface ≡ first + place → slice_get hooks place ≡ Some hook → attached_at interface new ≡ filter (stays interface leaves) (attached_at interface hook) → attached_from first (slice_set hooks place new) ≡ filter (stays interface leaves) (attached_from first hooks)
attached-leave interface first place leaves [] hook new at is left = absurd cc
attached-leave interface first zero leaves (h ∷ hooks) hook new at is left =
    let old : h ≡ hook = same_Some h hook is in
    let here : interface ≡ first = omega arith in
    let part : attached_at first new ≡ filter (stays interface leaves) (attached_at first h) = rw old (ap (λ i. attached_at i new) (sym here) ∙ left ∙ ap (λ i. filter (stays interface leaves) (attached_at i hook)) here) in
    ap (λ ys. ys ++ attached_from (first + 1) hooks) part
    ∙ ap (λ ys. filter (stays interface leaves) (attached_at first h) ++ ys) (sym (stay-from interface (first + 1) leaves hooks (omega arith)))
    ∙ sym (filter-append (stays interface leaves) (attached_at first h) (attached_from (first + 1) hooks))
attached-leave interface first (suc place) leaves (h ∷ hooks) hook new at is left =
    let apart : (first == interface) ≡ false = grind (arith, nat_tests) in
    ap (λ ys. attached_at first h ++ ys) (attached-leave interface (first + 1) place leaves hooks hook new (omega arith) is left)
    ∙ ap (λ ys. ys ++ filter (stays interface leaves) (attached_from (first + 1) hooks)) (sym (stay-placed interface first h.mode leaves h.chain apart))
    ∙ sym (filter-append (stays interface leaves) (attached_at first h) (attached_from (first + 1) hooks))
