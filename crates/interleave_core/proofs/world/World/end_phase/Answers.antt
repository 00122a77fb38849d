use Rattle.std.proofs.Common.{◌≡◌, ◌<◌, ◌^◌, [], ◌∷◌, ◌++◌, false, length, map, replicate, ap, sym, subst, ◌∙◌, arith}
use Rattle.std.specs.List.{list_any, position}
use Rattle.std.proofs.lemmas.List.{length-replicate}
use Rattle.interleave_core.proofs.SoundSteps.{sound-ended}
use Rattle.interleave_core.proofs.Worlds.{count-is, ended-is, none-waits}
use Rattle.interleave_core.specs.Moment.{Moment, phase_ended}
use Rattle.interleave_core.specs.Sound.{IsSoundMoment}
use Rattle.interleave_core.specs.Traffic.{Traffic, idle, waits}
use Rattle.interleave_core.specs.WorldView.{moment_of}
use Rattle.xdp_state.specs.Work.{needs_of}
use Rattle.interleave_core.proofs.world.World.end_phase.Goals as goal

pub invariant_of-self-2 : goal.invariant_of-self-2
invariant_of-self-2 c =
    let inv = c.self.invariant in
    let none : list_any waits c.self.inside.lanes.items ≡ false = none-waits c.first_waiting.result c.self.inside.lanes.items c.in_default.not-Some (c.first_waiting.ensures ∙ ap (position waits) c.deref.ensures.value) in
    let counted : c.count-published.result ≡ length c.self.inside.changes.items = c.count-published.ensures ∙ count-is c.self.inside.state c.self.inside.changes.items inv.state inv.taken in
    let needs : c.in_ok-needs.needs ≡ map (λ (t : Traffic). needs_of t.handed) c.self.inside.lanes.items = c.in_ok-needs.ensures ∙ ap (map (λ (t : Traffic). needs_of t.handed)) c.deref-2.ensures.value in
    let counts : c.in_ok-counts.counts ≡ map (λ (t : Traffic). t.counts) c.self.inside.lanes.items = c.in_ok-counts.ensures ∙ ap (map (λ (t : Traffic). t.counts)) c.deref-3.ensures.value in
    let many : c.len.result ≡ length c.self.inside.lanes.items = omega (arith, c.len.ensures, c.self.inside.lanes.ok) in
    let fresh : c.in_ok-lanes.lanes.items ≡ replicate (length c.self.inside.lanes.items) idle = c.in_ok-lanes.ensures ∙ ap (λ n. replicate n idle) many in
    let planned : c.push_reserved.new.self.items ≡ c.self.inside.plan.items ++ record { published = c.count-published.result; needs = c.in_ok-needs.needs } ∷ [] = c.push_reserved.ensures.items ∙ ap (λ xs. xs ++ record { published = c.count-published.result; needs = c.in_ok-needs.needs } ∷ []) c.reserve.ensures.items in
    let chosen : c.push_reserved-2.new.self.items ≡ c.self.inside.choices.items ++ c.in_ok-counts.counts ∷ [] = c.push_reserved-2.ensures.items ∙ ap (λ xs. xs ++ c.in_ok-counts.counts ∷ []) c.reserve-2.ensures.items in
    let is = ended-is (moment_of c.self.inside) c.count-published.result c.in_ok-needs.needs c.in_ok-counts.counts c.in_ok-lanes.lanes.items c.push_reserved.new.self.items c.push_reserved-2.new.self.items counted needs counts fresh planned chosen in
    let all : length c.in_ok-lanes.lanes.items ≡ length c.self.inside.lanes.items = ap length fresh ∙ length-replicate (length c.self.inside.lanes.items) idle in
    record {
      state = inv.state;
      taken = inv.taken;
      sound = subst IsSoundMoment (sym is) (sound-ended (moment_of c.self.inside) none inv.sound);
      processors = subst (λ n. n < 2 ^ 32) (sym all) inv.processors;
    }

pub returns-clause-ok : goal.returns-clause-ok
returns-clause-ok c =
    let inv = c.self.invariant in
    let none : list_any waits c.self.inside.lanes.items ≡ false = none-waits c.first_waiting.result c.self.inside.lanes.items c.in_default.not-Some (c.first_waiting.ensures ∙ ap (position waits) c.deref.ensures.value) in
    let counted : c.count-published.result ≡ length c.self.inside.changes.items = c.count-published.ensures ∙ count-is c.self.inside.state c.self.inside.changes.items inv.state inv.taken in
    let needs : c.in_ok-needs.needs ≡ map (λ (t : Traffic). needs_of t.handed) c.self.inside.lanes.items = c.in_ok-needs.ensures ∙ ap (map (λ (t : Traffic). needs_of t.handed)) c.deref-2.ensures.value in
    let counts : c.in_ok-counts.counts ≡ map (λ (t : Traffic). t.counts) c.self.inside.lanes.items = c.in_ok-counts.ensures ∙ ap (map (λ (t : Traffic). t.counts)) c.deref-3.ensures.value in
    let many : c.len.result ≡ length c.self.inside.lanes.items = omega (arith, c.len.ensures, c.self.inside.lanes.ok) in
    let fresh : c.in_ok-lanes.lanes.items ≡ replicate (length c.self.inside.lanes.items) idle = c.in_ok-lanes.ensures ∙ ap (λ n. replicate n idle) many in
    let planned : c.push_reserved.new.self.items ≡ c.self.inside.plan.items ++ record { published = c.count-published.result; needs = c.in_ok-needs.needs } ∷ [] = c.push_reserved.ensures.items ∙ ap (λ xs. xs ++ record { published = c.count-published.result; needs = c.in_ok-needs.needs } ∷ []) c.reserve.ensures.items in
    let chosen : c.push_reserved-2.new.self.items ≡ c.self.inside.choices.items ++ c.in_ok-counts.counts ∷ [] = c.push_reserved-2.ensures.items ∙ ap (λ xs. xs ++ c.in_ok-counts.counts ∷ []) c.reserve-2.ensures.items in
    let is = ended-is (moment_of c.self.inside) c.count-published.result c.in_ok-needs.needs c.in_ok-counts.counts c.in_ok-lanes.lanes.items c.push_reserved.new.self.items c.push_reserved-2.new.self.items counted needs counts fresh planned chosen in
    (subst (λ (m : Moment). list_any waits m.processors ≡ false) c.self.view_is none, is ∙ ap phase_ended c.self.view_is)
