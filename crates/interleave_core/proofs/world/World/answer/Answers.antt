use Rattle.std.proofs.Common.{◌≡◌, ◌<◌, true, length, refl, ap, subst, ◌∙◌, arith}
use Rattle.interleave_core.proofs.Worlds.{count-is}
use Rattle.interleave_core.specs.Moment.{Moment}
use Rattle.xdp_state.specs.Book.{Book, after, takes}
use Rattle.interleave_core.proofs.world.World.answer.Goals as goal

pub publish-requires : goal.publish-requires
publish-requires c =
    let inv = c.self.invariant in
    let same : c.self.inside.state ≡ after c.args.self.now.published = inv.state ∙ ap (λ (m : Moment). after m.published) c.self.view_is in
    let many : length c.self.inside.changes.items ≡ length c.args.self.now.published = ap (λ (m : Moment). length m.published) c.self.view_is in
    let few : c.self.inside.state.count < 65536 = omega (arith, count-is c.self.inside.state c.self.inside.changes.items inv.state inv.taken, many, c.requires.room) in
    subst (λ (b : Book). takes b c.in-Accepted.change ≡ true) same (c.in-Accepted.ensures.taken c.in-Accepted.change refl few)
