-- Nothing is lacking and no packet breaks a rule exactly where choices are legal.
use Rattle.std.proofs.Common.{◌≡◌, ◌↔◌, ℕ, ◌+◌, ◌≤◌, suc, min, Bool, true, false, cond, nat_lt, ◌==◌, List, [], ◌∷◌, length, Option, Some, None, Result, Ok, Err, IsOk, refl, sym, ap, ◌∙◌, arith}
use Rattle.std.specs.Option.{is_none, option_or}
use Rattle.std.proofs.lemmas.Bool.{false≢true, le-ltb, ltb-false, eqb-true, eq-eqb}
use Rattle.interleave_core.proofs.Giving.{legal-is_reached}
use Rattle.interleave_core.proofs.SoundSteps.{legal-reached}
use Rattle.interleave_core.specs.Legality.{breaks, first_illegal, illegal_from, illegal_in, illegal_on, illegal_packet, lacking_from, lacking_in, lacking_packet}
use Rattle.interleave_core.specs.Reached.{IsPlan, IsReached}
use Rattle.interleave_core.specs.Sound.{AreLegalFor}
use Rattle.interleave_core.specs.declared.illegal.Illegal.{Illegal}
use Rattle.interleave_core.specs.declared.illegal.LegalRule.TheVariants.{Fell, BelowNeed, AbovePhase, Shape}
use Rattle.xdp_state.specs.Legal.{AreLegalAfter, AreLegalCounts, AreLegalFrom, first_last, lasts_of, other_lasts}
use Rattle.xdp_state.specs.declared.plan.PlanPhase.{PlanPhase}

some-none : (e : Illegal) → Some e ≡ None → ⊥
some-none e is = false≢true (ap (λ o. is_none o) is)

record BothNone (a b : Option Illegal) : Type 0 where
  first : a ≡ None
  second : b ≡ None

neither : (a b : Option Illegal) → option_or a b ≡ None → BothNone a b
neither None b none = record { first = refl; second = none }
neither (Some x) b none = absurd cc

both-none : (a b : Option Illegal) → a ≡ None → b ≡ None → option_or a b ≡ None
both-none a b first second = rw (first, second) refl

record IsPassed (test : Bool) (rest : Option Illegal) : Type 0 where
  here : test ≡ false
  after : rest ≡ None

passed : (test : Bool) (x : Illegal) (rest : Option Illegal) → cond test (Some x) rest ≡ None → IsPassed test rest
passed true x rest none = absurd cc
passed false x rest none = record { here = refl; after = none }

alike : (test : Bool) (x : Illegal) → cond test None (Some x) ≡ None → test ≡ true
alike true x none = refl
alike false x none = absurd cc

record IsKept (last need published count : ℕ) : Type 0 where
  rises : last ≤ count
  needed : need ≤ count
  within : count ≤ published

packet-kept : (phase p k last published need count : ℕ) → illegal_packet phase p k last published need count ≡ None → IsKept last need published count
packet-kept phase p k last published need count none =
    let one = passed (nat_lt count last) (record { phase = phase; processor = p; packet = k; rule = Fell }) (cond (nat_lt count need) (breaks BelowNeed phase p k) (cond (nat_lt published count) (breaks AbovePhase phase p k) None)) none in
    let two = passed (nat_lt count need) (record { phase = phase; processor = p; packet = k; rule = BelowNeed }) (cond (nat_lt published count) (breaks AbovePhase phase p k) None) one.after in
    let three = passed (nat_lt published count) (record { phase = phase; processor = p; packet = k; rule = AbovePhase }) None two.after in
    record {
      rises = ltb-false count last one.here;
      needed = ltb-false count need two.here;
      within = ltb-false published count three.here;
    }

kept-packet : (phase p k last published need count : ℕ) → last ≤ count → need ≤ count → count ≤ published → illegal_packet phase p k last published need count ≡ None
kept-packet phase p k last published need count rises needed within =
    let one : nat_lt count last ≡ false = le-ltb count last rises in
    let two : nat_lt count need ≡ false = le-ltb count need needed in
    let three : nat_lt published count ≡ false = le-ltb published count within in
    rw (one, two, three) refl

on-legal : (phase p k last published : ℕ) (needs counts : List ℕ) → length needs ≡ length counts → illegal_on phase p k last published needs counts ≡ None → AreLegalCounts last published needs counts
on-legal phase p k last published [] [] many none = tt
on-legal phase p k last published [] (c ∷ counts) many none = absurd (omega arith)
on-legal phase p k last published (n ∷ needs) [] many none = absurd (omega arith)
on-legal phase p k last published (n ∷ needs) (c ∷ counts) many none =
    let both = neither (illegal_packet phase p k last published n c) (illegal_on phase p (k + 1) c published needs counts) none in
    let kept = packet-kept phase p k last published n c both.first in
    (kept.rises, kept.needed, kept.within, on-legal phase p (k + 1) c published needs counts (omega arith) both.second)

legal-on : (phase p k last published : ℕ) (needs counts : List ℕ) → AreLegalCounts last published needs counts → illegal_on phase p k last published needs counts ≡ None
legal-on phase p k last published [] counts legal = refl
legal-on phase p k last published (n ∷ needs) [] legal = refl
legal-on phase p k last published (n ∷ needs) (c ∷ counts) legal =
    both-none (illegal_packet phase p k last published n c) (illegal_on phase p (k + 1) c published needs counts) (kept-packet phase p k last published n c legal.0 legal.1 legal.2) (legal-on phase p (k + 1) c published needs counts legal.3)

legal-length : (last published : ℕ) (needs counts : List ℕ) → AreLegalCounts last published needs counts → length needs ≡ length counts
legal-length last published [] [] legal = refl
legal-length last published [] (c ∷ counts) legal = absurd legal
legal-length last published (n ∷ needs) [] legal = absurd legal
legal-length last published (n ∷ needs) (c ∷ counts) legal = ap suc (legal-length c published needs counts legal.3)

packet-lengths : (phase p : ℕ) (needs counts : List ℕ) → lacking_packet phase p needs counts ≡ None → length needs ≡ length counts
packet-lengths phase p needs counts none = eqb-true (length needs) (length counts) (alike (length needs == length counts) (record { phase = phase; processor = p; packet = min (length needs) (length counts); rule = Shape }) none)

lengths-packet : (phase p : ℕ) (needs counts : List ℕ) → length needs ≡ length counts → lacking_packet phase p needs counts ≡ None
lengths-packet phase p needs counts many =
    let test : (length needs == length counts) ≡ true = eq-eqb (length needs) (length counts) many in
    rw test refl

in-legal : (phase p q published : ℕ) (lasts : List ℕ) (needs counts : List (List ℕ)) → lacking_in phase p needs counts ≡ None → illegal_in phase q lasts published needs counts ≡ None → AreLegalFrom lasts published needs counts
in-legal phase p q published lasts [] [] there none = tt
in-legal phase p q published lasts [] (cs ∷ counts) there none = absurd cc
in-legal phase p q published lasts (ns ∷ needs) [] there none = absurd cc
in-legal phase p q published lasts (ns ∷ needs) (cs ∷ counts) there none =
    let shape = neither (lacking_packet phase p ns cs) (lacking_in phase (p + 1) needs counts) there in
    let both = neither (illegal_on phase q 0 (first_last lasts) published ns cs) (illegal_in phase (q + 1) (other_lasts lasts) published needs counts) none in
    (on-legal phase q 0 (first_last lasts) published ns cs (packet-lengths phase p ns cs shape.first) both.first, in-legal phase (p + 1) (q + 1) published (other_lasts lasts) needs counts shape.second both.second)

legal-there : (phase p published : ℕ) (lasts : List ℕ) (needs counts : List (List ℕ)) → AreLegalFrom lasts published needs counts → lacking_in phase p needs counts ≡ None
legal-there phase p published lasts [] [] legal = refl
legal-there phase p published lasts [] (cs ∷ counts) legal = absurd legal
legal-there phase p published lasts (ns ∷ needs) [] legal = absurd legal
legal-there phase p published lasts (ns ∷ needs) (cs ∷ counts) legal =
    both-none (lacking_packet phase p ns cs) (lacking_in phase (p + 1) needs counts) (lengths-packet phase p ns cs (legal-length (first_last lasts) published ns cs legal.0)) (legal-there phase (p + 1) published (other_lasts lasts) needs counts legal.1)

legal-in : (phase p published : ℕ) (lasts : List ℕ) (needs counts : List (List ℕ)) → AreLegalFrom lasts published needs counts → illegal_in phase p lasts published needs counts ≡ None
legal-in phase p published lasts [] counts legal = refl
legal-in phase p published lasts (ns ∷ needs) [] legal = refl
legal-in phase p published lasts (ns ∷ needs) (cs ∷ counts) legal =
    both-none (illegal_on phase p 0 (first_last lasts) published ns cs) (illegal_in phase (p + 1) (other_lasts lasts) published needs counts) (legal-on phase p 0 (first_last lasts) published ns cs legal.0) (legal-in phase (p + 1) published (other_lasts lasts) needs counts legal.1)

record IsWhole (lasts : List ℕ) (plan : List PlanPhase) (choices : List (List (List ℕ))) : Type 0 where
  whole : length choices ≡ length plan
  legal : AreLegalAfter lasts plan choices

from-legal : (phase : ℕ) (lasts : List ℕ) (plan : List PlanPhase) (choices : List (List (List ℕ))) → lacking_from phase plan choices ≡ None → illegal_from phase lasts plan choices ≡ None → IsWhole lasts plan choices
from-legal phase lasts [] [] there none = record { whole = refl; legal = tt }
from-legal phase lasts [] (c ∷ choices) there none = absurd cc
from-legal phase lasts (p ∷ plan) [] there none = absurd cc
from-legal phase lasts (p ∷ plan) (c ∷ choices) there none =
    let shape = neither (lacking_in phase 0 p.needs c) (lacking_from (phase + 1) plan choices) there in
    let both = neither (illegal_in phase 0 lasts p.published p.needs c) (illegal_from (phase + 1) (lasts_of lasts c) plan choices) none in
    let rest = from-legal (phase + 1) (lasts_of lasts c) plan choices shape.second both.second in
    record {
      whole = ap suc rest.whole;
      legal = (in-legal phase 0 0 p.published lasts p.needs c shape.first both.first, rest.legal);
    }

whole-there : (phase : ℕ) (lasts : List ℕ) (plan : List PlanPhase) (choices : List (List (List ℕ))) → length choices ≡ length plan → AreLegalAfter lasts plan choices → lacking_from phase plan choices ≡ None
whole-there phase lasts [] [] whole legal = refl
whole-there phase lasts [] (c ∷ choices) whole legal = absurd legal
whole-there phase lasts (p ∷ plan) [] whole legal = absurd (omega arith)
whole-there phase lasts (p ∷ plan) (c ∷ choices) whole legal =
    both-none (lacking_in phase 0 p.needs c) (lacking_from (phase + 1) plan choices) (legal-there phase 0 p.published lasts p.needs c legal.0) (whole-there (phase + 1) (lasts_of lasts c) plan choices (omega arith) legal.1)

whole-legal : (phase : ℕ) (lasts : List ℕ) (plan : List PlanPhase) (choices : List (List (List ℕ))) → AreLegalAfter lasts plan choices → illegal_from phase lasts plan choices ≡ None
whole-legal phase lasts [] choices legal = refl
whole-legal phase lasts (p ∷ plan) [] legal = refl
whole-legal phase lasts (p ∷ plan) (c ∷ choices) legal =
    both-none (illegal_in phase 0 lasts p.published p.needs c) (illegal_from (phase + 1) (lasts_of lasts c) plan choices) (legal-in phase 0 p.published lasts p.needs c legal.0) (whole-legal (phase + 1) (lasts_of lasts c) plan choices legal.1)

pub none-legal : (plan : List PlanPhase) (choices : List (List (List ℕ))) → first_illegal plan choices ≡ None → AreLegalFor plan choices
none-legal plan choices none =
    let both = neither (lacking_from 0 plan choices) (illegal_from 0 [] plan choices) none in
    let all = from-legal 0 [] plan choices both.first both.second in
    record { whole = all.whole; legal = all.legal }

pub legal-none : (plan : List PlanPhase) (choices : List (List (List ℕ))) → AreLegalFor plan choices → first_illegal plan choices ≡ None
legal-none plan choices all =
    both-none (lacking_from 0 plan choices) (illegal_from 0 [] plan choices) (whole-there 0 [] plan choices all.whole all.legal) (whole-legal 0 [] plan choices all.legal)

-- what a call says that answers with the first illegal packet
pub ok-legal : (plan : List PlanPhase) (choices : List (List (List ℕ))) → None ≡ first_illegal plan choices → (true ≡ true) ↔ AreLegalFor plan choices
ok-legal plan choices is = (λ _. none-legal plan choices (sym is), λ _. refl)

pub err-legal : (plan : List PlanPhase) (choices : List (List (List ℕ))) (e : Illegal) → Some e ≡ first_illegal plan choices → (false ≡ true) ↔ AreLegalFor plan choices
err-legal plan choices e is =
    (λ ok. absurd (false≢true ok), λ all. let none : Some e ≡ None = is ∙ legal-none plan choices all in absurd (some-none e none))

pub ok-reached : (plan : List PlanPhase) (choices : List (List (List ℕ))) (processors : ℕ) → None ≡ first_illegal plan choices → IsPlan processors plan → (true ≡ true) ↔ IsReached processors plan choices
ok-reached plan choices processors first is = (λ _. legal-is_reached processors plan choices is (none-legal plan choices (sym first)), λ _. refl)

pub err-reached : (plan : List PlanPhase) (choices : List (List (List ℕ))) (processors : ℕ) (e : Illegal) → Some e ≡ first_illegal plan choices → IsPlan processors plan → (false ≡ true) ↔ IsReached processors plan choices
err-reached plan choices processors e first is =
    (λ ok. absurd (false≢true ok), λ reached. (err-legal plan choices e first).1 (legal-reached processors plan choices reached))

pub ok-past : {T : Type 0} (r : Result T Illegal) → ((e : Illegal) → r ≡ Err e → ⊥) → IsOk r
ok-past (Ok x) other = refl
ok-past (Err e) other = absurd (other e refl)
