-- Runs, and that a run has one end.
use Rattle.std.proofs.Common.{◌≡◌, ℕ, zero, suc, ◌+◌, ◌<◌, ◌⊎◌, inl, inr, List, None, refl, sym, ap, ◌∙◌, subst, arith, add-one}
use Rattle.std.proofs.lemmas.Bool.{cases_lt}
use Rattle.bpf_insn.specs.declared.insn.Insn.{Insn}
use Rattle.bpf_machine.specs.declared.environment.Env.{Env}
use Rattle.bpf_machine.specs.Next.{Next, Goes, Ends, Faults}
use Rattle.bpf_machine.specs.Run.{Steps, Reaches, Runs, EndsIn, Ending, Ended, Faulted, Spent, instruction_at}
use Rattle.bpf_machine.specs.State.{State}

pub reaches_none : (code : List Insn) (env : Env) (s : State) → Reaches code env s 0 s
unfolding Reaches
reaches_none code env s = refl

pub reaches_more : (code : List Insn) (env : Env) (s t u : State) (n : ℕ) → Reaches code env s n t → Steps code env t (Goes u) → Reaches code env s (n + 1) u
unfolding Reaches
reaches_more code env s t u n so_far next = rw add-one (t, so_far, next)

pub ended : (code : List Insn) (env : Env) (s t u : State) (n budget : ℕ) → Reaches code env s n t → n < budget → Steps code env t (Ends u) → Runs code env s budget (Ended u (n + 1))
unfolding Runs
ended code env s t u n budget so_far below last = (n, t, add-one n, below, so_far, last)

pub faulted : (code : List Insn) (env : Env) (s t u : State) (n budget : ℕ) → Reaches code env s n t → n < budget → Steps code env t (Faults u) → Runs code env s budget (Faulted u (n + 1))
unfolding Runs
faulted code env s t u n budget so_far below last = inl (n, t, add-one n, below, so_far, last)

pub nowhere : (code : List Insn) (env : Env) (s t : State) (n budget : ℕ) → Reaches code env s n t → n < budget → instruction_at code t.next ≡ None → Runs code env s budget (Faulted t n)
unfolding Runs
nowhere code env s t n budget so_far below none = inr (below, so_far, none)

pub spent : (code : List Insn) (env : Env) (s t : State) (n budget : ℕ) → Reaches code env s n t → n ≡ budget → Runs code env s budget (Spent t budget)
unfolding Runs
spent code env s t n budget so_far all = (refl, rw (← all) so_far)

-- The state leads to one outcome.
pub record LeadsTo (code : List Insn) (env : Env) (t : State) (outcome : Next) : Type 0 where
  pub only : (other : Next) → Steps code env t other → other ≡ outcome

-- A run of so many instructions is spent in this state, and ends in no other way.
pub record IsSpentIn (code : List Insn) (env : Env) (s : State) (n : ℕ) (t : State) : Type 0 where
  pub only : (ending : Ending) → Runs code env s n ending → ending ≡ Spent t n

steps_somewhere : (code : List Insn) (env : Env) (t : State) (outcome : Next) → Steps code env t outcome → instruction_at code t.next ≡ None → ⊥
unfolding Steps
steps_somewhere code env t outcome steps none = let some = steps.2 in cc

only_none : (code : List Insn) (env : Env) (s : State) (ending : Ending) → Runs code env s 0 ending → ending ≡ Spent s 0
unfolding Runs Reaches
only_none code env s (Ended u used) run = absurd (let below : run.0 < 0 = run.3 in omega arith)
only_none code env s (Faulted u used) run = absurd (elim run [ inl r ↦ (let below : r.0 < 0 = r.3 in omega arith) | inr r ↦ (let below : used < 0 = r.0 in omega arith) ])
only_none code env s (Spent u used) run =
    let none : used ≡ 0 = run.0 in
    let same : u ≡ s = subst (λ (n : ℕ). Reaches code env s n u) none run.1 in
    cc

pub spent_in_none : (code : List Insn) (env : Env) (s : State) → IsSpentIn code env s 0 s
spent_in_none code env s = record { only = only_none code env s }

-- where a run that reached a state is spent in another one, they are the same
spent_here : (code : List Insn) (env : Env) (s t u : State) (n : ℕ) → IsSpentIn code env s n t → Reaches code env s n u → u ≡ t
unfolding Runs
spent_here code env s t u n is reached = let same : Spent u n ≡ Spent t n = is.only (Spent u n) (refl, reached) in cc

cases_suc : (k n : ℕ) → k < suc n → (k < n) ⊎ (k ≡ n)
cases_suc k n below = elim (cases_lt k n) [ inl less ↦ inl less | inr more ↦ inr (omega arith) ]

not_ended : (code : List Insn) (env : Env) (s t u before : State) (n k : ℕ) → IsSpentIn code env s n t → k < n → Reaches code env s k before → Steps code env before (Ends u) → ⊥
unfolding Runs
not_ended code env s t u before n k is below reached last = let same : Ended u (suc k) ≡ Spent t n = is.only (Ended u (suc k)) (k, before, refl, below, reached, last) in cc

not_faulted : (code : List Insn) (env : Env) (s t u before : State) (n k : ℕ) → IsSpentIn code env s n t → k < n → Reaches code env s k before → Steps code env before (Faults u) → ⊥
unfolding Runs
not_faulted code env s t u before n k is below reached last = let same : Faulted u (suc k) ≡ Spent t n = is.only (Faulted u (suc k)) (inl (k, before, refl, below, reached, last)) in cc

not_nowhere : (code : List Insn) (env : Env) (s t u : State) (n k : ℕ) → IsSpentIn code env s n t → k < n → Reaches code env s k u → instruction_at code u.next ≡ None → ⊥
unfolding Runs
not_nowhere code env s t u n k is below reached none = let same : Faulted u k ≡ Spent t n = is.only (Faulted u k) (inr (below, reached, none)) in cc

steps_as : (code : List Insn) (env : Env) (t before : State) (outcome other : Next) → LeadsTo code env t outcome → before ≡ t → Steps code env before other → other ≡ outcome
steps_as code env t before outcome other leads same steps = leads.only other (subst (λ (x : State). Steps code env x other) same steps)

only_more : (code : List Insn) (env : Env) (s t u : State) (n : ℕ) → IsSpentIn code env s n t → LeadsTo code env t (Goes u) → Steps code env t (Goes u) → (ending : Ending) → Runs code env s (suc n) ending → ending ≡ Spent u (suc n)
unfolding Runs Reaches
only_more code env s t u n is leads next (Ended v used) run = elim (cases_suc run.0 n run.3) [
  | inl less ↦ absurd (not_ended code env s t v run.1 n run.0 is less run.4 run.5)
  | inr same ↦
      let here : run.1 ≡ t = spent_here code env s t run.1 n is (subst (λ (k : ℕ). Reaches code env s k run.1) same run.4) in
      let e : Ends v ≡ Goes u = steps_as code env t run.1 (Goes u) (Ends v) leads here run.5 in
      cc
]
only_more code env s t u n is leads next (Faulted v used) run = elim run [
  | inl r ↦ elim (cases_suc r.0 n r.3) [
    | inl less ↦ absurd (not_faulted code env s t v r.1 n r.0 is less r.4 r.5)
    | inr same ↦
        let here : r.1 ≡ t = spent_here code env s t r.1 n is (subst (λ (k : ℕ). Reaches code env s k r.1) same r.4) in
        let e : Faults v ≡ Goes u = steps_as code env t r.1 (Goes u) (Faults v) leads here r.5 in
        cc
  ]
  | inr r ↦ elim (cases_suc used n r.0) [
    | inl less ↦ absurd (not_nowhere code env s t v n used is less r.1 r.2)
    | inr same ↦
        let here : v ≡ t = spent_here code env s t v n is (subst (λ (k : ℕ). Reaches code env s k v) same r.1) in
        absurd (steps_somewhere code env t (Goes u) next (subst (λ (x : State). instruction_at code x.next ≡ None) here r.2))
  ]
]
only_more code env s t u n is leads next (Spent v used) run =
    let all : used ≡ suc n = run.0 in
    let reached : Reaches code env s (suc n) v = subst (λ (k : ℕ). Reaches code env s k v) all run.1 in
    let here : reached.0 ≡ t = spent_here code env s t reached.0 n is reached.1 in
    let e : Goes v ≡ Goes u = steps_as code env t reached.0 (Goes u) (Goes v) leads here reached.2 in
    cc

pub spent_in_more : (code : List Insn) (env : Env) (s t u : State) (n : ℕ) → IsSpentIn code env s n t → LeadsTo code env t (Goes u) → Steps code env t (Goes u) → IsSpentIn code env s (n + 1) u
spent_in_more code env s t u n is leads next = rw add-one (record { only = only_more code env s t u n is leads next })

-- what a longer run did after so many instructions
record Passes (code : List Insn) (env : Env) (s : State) (k : ℕ) : Type 0 where
  mid : State
  next : State
  reached : Reaches code env s k mid
  goes : Steps code env mid (Goes next)

passes : (code : List Insn) (env : Env) (s v : State) (k n : ℕ) → k < n → Reaches code env s n v → Passes code env s k
unfolding Reaches
passes code env s v k zero below reached = absurd (omega arith)
passes code env s v k (suc n) below reached = elim (cases_suc k n below) [
  | inl less ↦ passes code env s reached.0 k n less reached.1
  | inr same ↦ record { mid = reached.0; next = v; reached = subst (λ (j : ℕ). Reaches code env s j reached.0) (sym same) reached.1; goes = reached.2 }
]

-- The run ends in the state, which is reached after so many instructions.
pub record Halts (code : List Insn) (env : Env) (t : State) (n : ℕ) (ending : Ending) : Type 0 where
  pub goes : (v : State) → Steps code env t (Goes v) → ⊥
  pub ended : (v : State) → Steps code env t (Ends v) → Ended v (suc n) ≡ ending
  pub faulted : (v : State) → Steps code env t (Faults v) → Faulted v (suc n) ≡ ending
  pub nowhere : instruction_at code t.next ≡ None → Faulted t n ≡ ending

not_passed : (code : List Insn) (env : Env) (s t : State) (n : ℕ) (ending : Ending) → IsSpentIn code env s n t → Halts code env t n ending → Passes code env s n → ⊥
not_passed code env s t n ending is halts p =
    let here : p.mid ≡ t = spent_here code env s t p.mid n is p.reached in
    halts.goes p.next (subst (λ (x : State). Steps code env x (Goes p.next)) here p.goes)

cases_three : (k n : ℕ) → (k < n) ⊎ ((k ≡ n) ⊎ (n < k))
cases_three k n = elim (cases_lt k n) [
  | inl less ↦ inl less
  | inr more ↦ elim (cases_lt n k) [ inl past ↦ inr (inr past) | inr same ↦ inr (inl (omega arith)) ]
]

pub only_halted : (code : List Insn) (env : Env) (s t : State) (n budget : ℕ) (end : Ending) → IsSpentIn code env s n t → n < budget → Halts code env t n end → (ending : Ending) → Runs code env s budget ending → ending ≡ end
unfolding Runs
only_halted code env s t n budget end is below halts (Ended v used) run = elim (cases_three run.0 n) [
  | inl less ↦ absurd (not_ended code env s t v run.1 n run.0 is less run.4 run.5)
  | inr rest ↦ elim rest [
    | inl same ↦
        let here : run.1 ≡ t = spent_here code env s t run.1 n is (subst (λ (k : ℕ). Reaches code env s k run.1) same run.4) in
        let e : Ended v (suc n) ≡ end = halts.ended v (subst (λ (x : State). Steps code env x (Ends v)) here run.5) in
        let count : used ≡ suc n = run.2 ∙ ap (λ (k : ℕ). suc k) same in
        rw count e
    | inr past ↦ absurd (not_passed code env s t n end is halts (passes code env s run.1 n run.0 past run.4))
  ]
]
only_halted code env s t n budget end is below halts (Faulted v used) run = elim run [
  | inl r ↦ elim (cases_three r.0 n) [
    | inl less ↦ absurd (not_faulted code env s t v r.1 n r.0 is less r.4 r.5)
    | inr rest ↦ elim rest [
      | inl same ↦
          let here : r.1 ≡ t = spent_here code env s t r.1 n is (subst (λ (k : ℕ). Reaches code env s k r.1) same r.4) in
          let e : Faulted v (suc n) ≡ end = halts.faulted v (subst (λ (x : State). Steps code env x (Faults v)) here r.5) in
          let count : used ≡ suc n = r.2 ∙ ap (λ (k : ℕ). suc k) same in
          rw count e
      | inr past ↦ absurd (not_passed code env s t n end is halts (passes code env s r.1 n r.0 past r.4))
    ]
  ]
  | inr r ↦ elim (cases_three used n) [
    | inl less ↦ absurd (not_nowhere code env s t v n used is less r.1 r.2)
    | inr rest ↦ elim rest [
      | inl same ↦
          let here : v ≡ t = spent_here code env s t v n is (subst (λ (k : ℕ). Reaches code env s k v) same r.1) in
          let e : Faulted t n ≡ end = halts.nowhere (subst (λ (x : State). instruction_at code x.next ≡ None) here r.2) in
          rw (here, same) e
      | inr past ↦ absurd (not_passed code env s t n end is halts (passes code env s v n used past r.1))
    ]
  ]
]
only_halted code env s t n budget end is below halts (Spent v used) run =
    let past : n < used = omega (arith, run.0) in
    absurd (not_passed code env s t n end is halts (passes code env s v n used past run.1))

pub halts_ended : (code : List Insn) (env : Env) (t u : State) (n : ℕ) → LeadsTo code env t (Ends u) → Steps code env t (Ends u) → Halts code env t n (Ended u (suc n))
halts_ended code env t u n leads last = record {
  goes = λ v steps. let e : Goes v ≡ Ends u = leads.only (Goes v) steps in cc;
  ended = λ v steps. let e : Ends v ≡ Ends u = leads.only (Ends v) steps in cc;
  faulted = λ v steps. let e : Faults v ≡ Ends u = leads.only (Faults v) steps in cc;
  nowhere = λ none. absurd (steps_somewhere code env t (Ends u) last none);
}

pub halts_faulted : (code : List Insn) (env : Env) (t u : State) (n : ℕ) → LeadsTo code env t (Faults u) → Steps code env t (Faults u) → Halts code env t n (Faulted u (suc n))
halts_faulted code env t u n leads last = record {
  goes = λ v steps. let e : Goes v ≡ Faults u = leads.only (Goes v) steps in cc;
  ended = λ v steps. let e : Ends v ≡ Faults u = leads.only (Ends v) steps in cc;
  faulted = λ v steps. let e : Faults v ≡ Faults u = leads.only (Faults v) steps in cc;
  nowhere = λ none. absurd (steps_somewhere code env t (Faults u) last none);
}

steps_nowhere : (code : List Insn) (env : Env) (t : State) → instruction_at code t.next ≡ None → (outcome : Next) → Steps code env t outcome → ⊥
steps_nowhere code env t none outcome steps = steps_somewhere code env t outcome steps none

pub halts_nowhere : (code : List Insn) (env : Env) (t : State) (n : ℕ) → instruction_at code t.next ≡ None → Halts code env t n (Faulted t n)
halts_nowhere code env t n none = record {
  goes = λ v steps. steps_nowhere code env t none (Goes v) steps;
  ended = λ v steps. absurd (steps_nowhere code env t none (Ends v) steps);
  faulted = λ v steps. absurd (steps_nowhere code env t none (Faults v) steps);
  nowhere = λ _. refl;
}

-- the ways in which a run ends, from the state that it has reached
pub ends_ended : (code : List Insn) (env : Env) (s t u : State) (n budget : ℕ) → IsSpentIn code env s n t → Reaches code env s n t → n < budget → Steps code env t (Ends u) → ((other : Next) → Steps code env t other → other ≡ Ends u)
    → EndsIn code env s budget (Ended u (n + 1))
ends_ended code env s t u n budget is reached below last only =
    let leads : LeadsTo code env t (Ends u) = record { only = only } in
    subst (λ (k : ℕ). EndsIn code env s budget (Ended u k)) (sym (add-one n)) (record {
      run = subst (λ (k : ℕ). Runs code env s budget (Ended u k)) (add-one n) (ended code env s t u n budget reached below last);
      only = only_halted code env s t n budget (Ended u (suc n)) is below (halts_ended code env t u n leads last);
    })

pub ends_faulted : (code : List Insn) (env : Env) (s t u : State) (n budget : ℕ) → IsSpentIn code env s n t → Reaches code env s n t → n < budget → Steps code env t (Faults u) → ((other : Next) → Steps code env t other → other ≡ Faults u)
    → EndsIn code env s budget (Faulted u (n + 1))
ends_faulted code env s t u n budget is reached below last only =
    let leads : LeadsTo code env t (Faults u) = record { only = only } in
    subst (λ (k : ℕ). EndsIn code env s budget (Faulted u k)) (sym (add-one n)) (record {
      run = subst (λ (k : ℕ). Runs code env s budget (Faulted u k)) (add-one n) (faulted code env s t u n budget reached below last);
      only = only_halted code env s t n budget (Faulted u (suc n)) is below (halts_faulted code env t u n leads last);
    })

pub ends_nowhere : (code : List Insn) (env : Env) (s t u : State) (n budget : ℕ) → IsSpentIn code env s n t → Reaches code env s n t → n < budget → instruction_at code t.next ≡ None → u ≡ t
    → EndsIn code env s budget (Faulted u n)
ends_nowhere code env s t u n budget is reached below none same =
    subst (λ (x : State). EndsIn code env s budget (Faulted x n)) (sym same) (record {
      run = nowhere code env s t n budget reached below none;
      only = only_halted code env s t n budget (Faulted t n) is below (halts_nowhere code env t n none);
    })

pub ends_spent : (code : List Insn) (env : Env) (s t : State) (n budget : ℕ) → IsSpentIn code env s n t → Reaches code env s n t → n ≡ budget → EndsIn code env s budget (Spent t budget)
ends_spent code env s t n budget is reached all =
    subst (λ (k : ℕ). EndsIn code env s k (Spent t k)) all (record { run = spent code env s t n n reached refl; only = is.only })

pub spent_in_next : (code : List Insn) (env : Env) (s t u : State) (n : ℕ) → IsSpentIn code env s n t → Steps code env t (Goes u) → ((other : Next) → Steps code env t other → other ≡ Goes u) → IsSpentIn code env s (n + 1) u
spent_in_next code env s t u n is next only = spent_in_more code env s t u n is (record { only = only }) next
