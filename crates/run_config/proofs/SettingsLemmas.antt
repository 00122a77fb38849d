-- One setting more.
use Rattle.std.proofs.Common.{◌≡◌, ℕ, ◌==◌, Bool, true, false, cond, not, List, [], ◌∷◌, ◌++◌, codes, Some, None, Option, find, reverse, refl, ◌∙◌, unwrap_or, IfNone}
use Rattle.std.specs.Option.{option_map, option_map_or}
use Rattle.std.specs.Str.{bytes_eq}
use Rattle.std.proofs.lemmas.List.{reverse-append}
use Rattle.xio.specs.declared.action.Action.{Action}
use Rattle.xio.specs.declared.action.Action.TheVariants.{Aborted, Drop, Pass, Tx, Redirect}
use Rattle.xio.specs.Action.{number}
use Rattle.run_config.specs.Settings.{action_name, config_from, goes_on, mask_from, priority_of}
use Rattle.run_config.specs.Values.{Named, last_value}

-- what holds holds of None
pub if_none : {X : Type 0} (o : Option X) (P : Type 0) → P → IfNone o P
if_none None P p = p
if_none (Some x) P p = tt

last_of : (b : Bool) (one : Named) (rest : Option Named) → option_map (λ x. x.value) (cond b (Some one) rest) ≡ cond b (Some one.value) (option_map (λ x. x.value) rest)
last_of true one rest = refl
last_of false one rest = refl

pub last_value-push : (name : List ℕ) (values : List Named) (one : Named) → last_value name (values ++ one ∷ []) ≡ cond (bytes_eq one.name name) (Some one.value) (last_value name values)
unfolding last_value
last_value-push name values one = rw (reverse-append values (one ∷ [])) (last_of (bytes_eq one.name name) one (find (λ x. bytes_eq x.name name) (reverse values)))

priority_by : (b : Bool) (value : ℕ) (rest : Option ℕ) → unwrap_or (cond b (Some value) rest) 50 ≡ cond b value (unwrap_or rest 50)
priority_by true value rest = refl
priority_by false value rest = refl

priority_of-push : (settings : List Named) (one : Named) → priority_of (settings ++ one ∷ []) ≡ cond (bytes_eq one.name (codes "priority")) one.value (priority_of settings)
unfolding priority_of
priority_of-push settings one = rw (last_value-push (codes "priority") settings one) (priority_by (bytes_eq one.name (codes "priority")) one.value (last_value (codes "priority") settings))

goes_on_by : (b : Bool) (value : ℕ) (rest : Option ℕ) (default : Bool) → option_map_or (λ v. not (v == 0)) (cond b (Some value) rest) default ≡ cond b (not (value == 0)) (option_map_or (λ v. not (v == 0)) rest default)
goes_on_by true value rest default = refl
goes_on_by false value rest default = refl

goes_on-push : (settings : List Named) (one : Named) (action : Action) → goes_on (settings ++ one ∷ []) action ≡ cond (bytes_eq one.name (action_name action)) (not (one.value == 0)) (goes_on settings action)
unfolding goes_on
goes_on-push settings one action = rw (last_value-push (action_name action) settings one) (goes_on_by (bytes_eq one.name (action_name action)) one.value (last_value (action_name action) settings) (number action == number Pass))

-- actions have different names, none of which is that of the priority
same_name : (one other : Action) → bytes_eq (action_name one) (action_name other) ≡ (number other == number one)
same_name Aborted Aborted = refl
same_name Aborted Drop = refl
same_name Aborted Pass = refl
same_name Aborted Tx = refl
same_name Aborted Redirect = refl
same_name Drop Aborted = refl
same_name Drop Drop = refl
same_name Drop Pass = refl
same_name Drop Tx = refl
same_name Drop Redirect = refl
same_name Pass Aborted = refl
same_name Pass Drop = refl
same_name Pass Pass = refl
same_name Pass Tx = refl
same_name Pass Redirect = refl
same_name Tx Aborted = refl
same_name Tx Drop = refl
same_name Tx Pass = refl
same_name Tx Tx = refl
same_name Tx Redirect = refl
same_name Redirect Aborted = refl
same_name Redirect Drop = refl
same_name Redirect Pass = refl
same_name Redirect Tx = refl
same_name Redirect Redirect = refl

other_name : (action : Action) → (bytes_eq (codes "priority") (action_name action) ≡ false) × (bytes_eq (action_name action) (codes "priority") ≡ false)
other_name Aborted = (refl, refl)
other_name Drop = (refl, refl)
other_name Pass = (refl, refl)
other_name Tx = (refl, refl)
other_name Redirect = (refl, refl)

-- masks of the same bits
mask_from-same : (one other : Action → Bool) → ((action : Action) → one action ≡ other action) → mask_from one ≡ mask_from other
mask_from-same one other h = rw (h Aborted, h Drop, h Pass, h Tx, h Redirect) refl

pub config_from-priority : (settings : List Named) (value : ℕ) → config_from (settings ++ record { name = codes "priority"; value = value } ∷ []) ≡ record { priority = value; mask = (config_from settings).mask }
unfolding config_from
config_from-priority settings value =
    let one : Named = record { name = codes "priority"; value = value } in
    let priority : priority_of (settings ++ one ∷ []) ≡ value = priority_of-push settings one in
    let mask = mask_from-same (goes_on (settings ++ one ∷ [])) (goes_on settings) (λ action. goes_on-push settings one action ∙ rw (other_name action).0 refl) in
    rw (priority, mask) refl

pub config_from-action : (settings : List Named) (action : Action) (value : ℕ) → config_from (settings ++ record { name = action_name action; value = value } ∷ []) ≡ record { priority = (config_from settings).priority; mask = mask_from (λ other. cond (number other == number action) (not (value == 0)) (goes_on settings other)) }
unfolding config_from
config_from-action settings action value =
    let one : Named = record { name = action_name action; value = value } in
    let after = λ (other : Action). cond (number other == number action) (not (value == 0)) (goes_on settings other) in
    let priority : priority_of (settings ++ one ∷ []) ≡ priority_of settings = priority_of-push settings one ∙ rw (other_name action).1 refl in
    let mask = mask_from-same (goes_on (settings ++ one ∷ [])) after (λ other. goes_on-push settings one other ∙ rw (same_name action other) refl) in
    rw (priority, mask) refl

pub config_from-mask : (settings : List Named) → (config_from settings).mask ≡ mask_from (goes_on settings)
unfolding config_from
config_from-mask settings = refl

pub ruleset one_more = (config_from-priority, config_from-action, config_from-mask)
