-- What each step of a world keeps of its fields.
use Rattle.std.proofs.Common.{◌≡◌, ℕ, Bool, true, false, cond, nat_lt, List, [], ◌∷◌, ◌++◌, length, map, replicate, Option, Some, None, refl, sym, ap, subst, ◌∙◌, arith}
use Rattle.std.specs.List.{list_any, position, position_or_len}
use Rattle.std.specs.Option.{is_some}
use Rattle.std.proofs.lemmas.Bool.{false≢true}
use Rattle.std.proofs.lemmas.Bool.Decides.{nat_tests}
use Rattle.std.proofs.lemmas.Grind.{common_steps}
use Rattle.interleave_core.proofs.SoundSteps.{sound-published}
use Rattle.interleave_core.specs.Moment.{Moment, beginning, changed_at, handed_in, carried_by, phase_ended, with_change}
use Rattle.interleave_core.specs.Sound.{IsSoundMoment}
use Rattle.interleave_core.specs.Traffic.{Traffic, idle, waits, with_count, with_packet}
use Rattle.xdp_state.proofs.Counts.{after_more, count_after, taken_more}
use Rattle.xdp_state.specs.Book.{AllTaken, Book, after, applied, takes}
use Rattle.xdp_state.specs.Handed.{Handed}
use Rattle.xdp_state.specs.Work.{needs_of}
use Rattle.xdp_state.specs.declared.change.Change.{Change}
use Rattle.xdp_state.specs.declared.plan.PlanPhase.{PlanPhase}

-- the state and what was published, and with it a moment that is sound
pub record IsKept (state : Book) (moment : Moment) : Type 0 where
  pub state_is : state ≡ after moment.published
  pub taken : AllTaken moment.published
  pub sound : IsSoundMoment moment

pub kept-published : (state new : Book) (moment : Moment) (change : Change) (published : List Change) → IsKept state moment → takes (after moment.published) change ≡ true → new ≡ applied state change → published ≡ moment.published ++ change ∷ [] → IsKept new (record { published = published; processors = moment.processors; plan = moment.plan; choices = moment.choices })
kept-published state new moment change published kept taken is more =
    let here : IsKept new (with_change change moment) = record {
      state_is = is ∙ ap (λ b. applied b change) kept.state_is ∙ sym (after_more moment.published change);
      taken = taken_more moment.published change kept.taken taken;
      sound = sound-published moment change kept.sound;
    } in
    subst (λ ps. IsKept new (record { published = ps; processors = moment.processors; plan = moment.plan; choices = moment.choices })) (sym more) here

pub handed-is : (moment : Moment) (processor need : ℕ) (packet copy : Handed) (processors : List Traffic) → copy ≡ packet → need ≡ length moment.published → processors ≡ changed_at processor (with_packet (record { packet = copy; need = need })) moment.processors → record { published = moment.published; processors = processors; plan = moment.plan; choices = moment.choices } ≡ handed_in processor packet moment
handed-is moment processor need packet copy processors same count is =
    ap (λ ts. record { published = moment.published; processors = ts; plan = moment.plan; choices = moment.choices }) is
    ∙ ap (λ p. record { published = moment.published; processors = changed_at processor (with_packet (record { packet = p; need = need })) moment.processors; plan = moment.plan; choices = moment.choices }) same
    ∙ ap (λ n. record { published = moment.published; processors = changed_at processor (with_packet (record { packet = packet; need = n })) moment.processors; plan = moment.plan; choices = moment.choices }) count

pub carried-is : (moment : Moment) (processor count : ℕ) (processors : List Traffic) → count ≡ length moment.published → processors ≡ changed_at processor (with_count count) moment.processors → record { published = moment.published; processors = processors; plan = moment.plan; choices = moment.choices } ≡ carried_by processor moment
carried-is moment processor count processors counted is =
    ap (λ ts. record { published = moment.published; processors = ts; plan = moment.plan; choices = moment.choices }) is
    ∙ ap (λ n. record { published = moment.published; processors = changed_at processor (with_count n) moment.processors; plan = moment.plan; choices = moment.choices }) counted

pub ended-is : (moment : Moment) (n : ℕ) (needs counts : List (List ℕ)) (processors : List Traffic) (plan : List PlanPhase) (choices : List (List (List ℕ))) → n ≡ length moment.published → needs ≡ map (λ (t : Traffic). needs_of t.handed) moment.processors → counts ≡ map (λ (t : Traffic). t.counts) moment.processors → processors ≡ replicate (length moment.processors) idle → plan ≡ moment.plan ++ record { published = n; needs = needs } ∷ [] → choices ≡ moment.choices ++ counts ∷ [] → record { published = moment.published; processors = processors; plan = plan; choices = choices } ≡ phase_ended moment
ended-is moment n needs counts processors plan choices is_n is_needs is_counts is_idle is_plan is_choices =
    rw (is_idle, is_plan, is_choices, is_n, is_needs, is_counts) refl

place-any : {X : Type 0} (p : X → Bool) (xs : List X) → nat_lt (position_or_len p xs) (length xs) ≡ list_any p xs
place-any p [] = refl
place-any p (x ∷ xs) = grind (arith, common_steps, nat_tests, place-any p xs)

cond-none : (b : Bool) (x : ℕ) → None ≡ cond b (Some x) None → b ≡ false
cond-none true x is = absurd (false≢true (ap (λ (o : Option ℕ). is_some o) is))
cond-none false x is = refl

-- no first place is one of no packet
pub none-waits : (r : Option ℕ) (ts : List Traffic) → ((x : ℕ) → r ≡ Some x → ⊥) → r ≡ position waits ts → list_any waits ts ≡ false
none-waits None ts other is = sym (place-any waits ts) ∙ cond-none (nat_lt (position_or_len waits ts) (length ts)) (position_or_len waits ts) is
none-waits (Some x) ts other is = absurd (other x refl)

pub begun-is : (published : List Change) (processors : List Traffic) (plan : List PlanPhase) (choices : List (List (List ℕ))) (n : ℕ) → published ≡ [] → processors ≡ replicate n idle → plan ≡ [] → choices ≡ [] → record { published = published; processors = processors; plan = plan; choices = choices } ≡ beginning n
begun-is published processors plan choices n none is_idle no_plan no_choices = rw (none, is_idle, no_plan, no_choices) refl

-- a state counts what was published
pub count-is : (state : Book) (published : List Change) → state ≡ after published → AllTaken published → state.count ≡ length published
count-is state published is taken = ap (λ (b : Book). b.count) is ∙ count_after published taken
