use Rattle.std.proofs.Common.{◌≡◌, ◌<◌, ◌^◌, true, length, rules, ap, sym, subst, ◌∙◌}
use Rattle.interleave_core.proofs.Lanes.{length-changed_at}
use Rattle.interleave_core.proofs.SoundSteps.{sound-carried_by}
use Rattle.interleave_core.proofs.Worlds.{carried-is, count-is}
use Rattle.interleave_core.specs.Moment.{Moment, carried_by, waits_at}
use Rattle.interleave_core.specs.Sound.{IsSoundMoment}
use Rattle.interleave_core.specs.Traffic.{with_count}
use Rattle.interleave_core.specs.WorldView.{moment_of}
use Rattle.interleave_core.proofs.world.World.carry.Goals as goal

pub invariant_of-self-2 : goal.invariant_of-self-2
invariant_of-self-2 c =
    let inv = c.self.invariant in
    let there : waits_at c.args.processor c.self.inside.lanes.items ≡ true = search rules in
    let counted : c.count-count.result ≡ length c.self.inside.changes.items = c.count-count.ensures ∙ count-is c.self.inside.state c.self.inside.changes.items inv.state inv.taken in
    let is = carried-is (moment_of c.self.inside) c.args.processor c.count-count.result c.carry_on.new.lanes.items counted c.in_ok-carry_on.ensures.ok in
    let many : length c.carry_on.new.lanes.items ≡ length c.self.inside.lanes.items = ap length c.in_ok-carry_on.ensures.ok ∙ length-changed_at c.args.processor (with_count c.count-count.result) c.self.inside.lanes.items in
    record {
      state = inv.state;
      taken = inv.taken;
      sound = subst IsSoundMoment (sym is) (sound-carried_by (moment_of c.self.inside) c.args.processor there inv.sound);
      processors = subst (λ n. n < 2 ^ 32) (sym many) inv.processors;
    }

pub returns-clause-ok : goal.returns-clause-ok
returns-clause-ok c =
    let inv = c.self.invariant in
    let there : waits_at c.args.processor c.self.inside.lanes.items ≡ true = search rules in
    let counted : c.count-count.result ≡ length c.self.inside.changes.items = c.count-count.ensures ∙ count-is c.self.inside.state c.self.inside.changes.items inv.state inv.taken in
    (subst (λ (m : Moment). waits_at c.args.processor m.processors ≡ true) c.self.view_is there, carried-is (moment_of c.self.inside) c.args.processor c.count-count.result c.carry_on.new.lanes.items counted c.in_ok-carry_on.ensures.ok ∙ ap (carried_by c.args.processor) c.self.view_is)
