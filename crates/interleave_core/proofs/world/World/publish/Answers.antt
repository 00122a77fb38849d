use Rattle.std.proofs.Common.{◌≡◌, true, [], ◌∷◌, ◌++◌, ap, sym, subst, ◌∙◌}
use Rattle.interleave_core.proofs.Worlds.{kept-published}
use Rattle.interleave_core.specs.Moment.{Moment}
use Rattle.interleave_core.specs.WorldView.{moment_of}
use Rattle.xdp_state.specs.Book.{after, takes}
use Rattle.interleave_core.proofs.world.World.publish.Goals as goal

pub invariant_of-self-2 : goal.invariant_of-self-2
invariant_of-self-2 c =
    let inv = c.self.invariant in
    let taken : takes (after c.self.inside.changes.items) c.args.change ≡ true = subst (λ (m : Moment). takes (after m.published) c.args.change ≡ true) (sym c.self.view_is) c.requires in
    let more : c.push_reserved.new.self.items ≡ c.self.inside.changes.items ++ c.args.change ∷ [] = c.push_reserved.ensures.items ∙ ap (λ xs. xs ++ c.args.change ∷ []) c.reserve.ensures.items in
    let kept = kept-published c.self.inside.state c.absorb.new.self (moment_of c.self.inside) c.args.change c.push_reserved.new.self.items (record { state_is = inv.state; taken = inv.taken; sound = inv.sound }) taken c.absorb.ensures more in
    record { state = kept.state_is; taken = kept.taken; sound = kept.sound; processors = inv.processors }
