use Rattle.std.proofs.Common.{◌≡◌, ◌<◌, ◌^◌, length, ap, sym, subst, ◌∙◌}
use Rattle.interleave_core.proofs.Lanes.{length-changed_at}
use Rattle.interleave_core.proofs.SoundSteps.{sound-handed_in}
use Rattle.interleave_core.proofs.Worlds.{count-is, handed-is}
use Rattle.interleave_core.specs.Moment.{handed_in}
use Rattle.interleave_core.specs.Sound.{IsSoundMoment}
use Rattle.interleave_core.specs.Traffic.{with_packet}
use Rattle.interleave_core.specs.WorldView.{moment_of}
use Rattle.interleave_core.proofs.world.World.hand_in.Goals as goal

pub invariant_of-self-2 : goal.invariant_of-self-2
invariant_of-self-2 c =
    let inv = c.self.invariant in
    let counted : c.count-need.result ≡ length c.self.inside.changes.items = c.count-need.ensures ∙ count-is c.self.inside.state c.self.inside.changes.items inv.state inv.taken in
    let is = handed-is (moment_of c.self.inside) c.args.processor c.count-need.result c.args.packet.now c.in_ok-packet.packet c.hand_to.new.lanes.items c.in_ok-packet.ensures counted c.in_ok-hand_to.ensures.ok in
    let many : length c.hand_to.new.lanes.items ≡ length c.self.inside.lanes.items = ap length c.in_ok-hand_to.ensures.ok ∙ length-changed_at c.args.processor (with_packet (record { packet = c.in_ok-packet.packet; need = c.count-need.result })) c.self.inside.lanes.items in
    record {
      state = inv.state;
      taken = inv.taken;
      sound = subst IsSoundMoment (sym is) (sound-handed_in (moment_of c.self.inside) c.args.processor c.args.packet.now inv.sound);
      processors = subst (λ n. n < 2 ^ 32) (sym many) inv.processors;
    }

pub returns-clause-ok : goal.returns-clause-ok
returns-clause-ok c =
    let inv = c.self.invariant in
    let counted : c.count-need.result ≡ length c.self.inside.changes.items = c.count-need.ensures ∙ count-is c.self.inside.state c.self.inside.changes.items inv.state inv.taken in
    (c.requires, handed-is (moment_of c.self.inside) c.args.processor c.count-need.result c.args.packet.now c.in_ok-packet.packet c.hand_to.new.lanes.items c.in_ok-packet.ensures counted c.in_ok-hand_to.ensures.ok ∙ ap (handed_in c.args.processor c.args.packet.now) c.self.view_is)
