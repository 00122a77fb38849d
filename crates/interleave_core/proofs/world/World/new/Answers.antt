use Rattle.std.proofs.Common.{◌≡◌, ◌<◌, ◌^◌, length, sum_by, refl, ap, sym, subst, ◌∙◌}
use Rattle.std.proofs.lemmas.List.{length-replicate}
use Rattle.interleave_core.proofs.SoundSteps.{sound-beginning}
use Rattle.interleave_core.proofs.Worlds.{begun-is}
use Rattle.interleave_core.specs.Sound.{IsSoundMoment}
use Rattle.interleave_core.specs.Traffic.{idle}
use Rattle.xdp_state.specs.Book.{AllTaken, after}
use Rattle.xdp_state.specs.declared.interface.Interface.{Interface}
use Rattle.interleave_core.proofs.world.World.new.Goals as goal

pub invariant_of-result : goal.invariant_of-result
invariant_of-result c =
    let none = c.new-2.ensures.items in
    let is = begun-is c.new-2.result.items c.in_ok-lanes.lanes.items c.new-3.result.items c.new-4.result.items c.queues_of-processors.result none c.in_ok-lanes.ensures c.new-3.ensures.items c.new-4.ensures.items in
    let many : length c.in_ok-lanes.lanes.items ≡ c.queues_of-processors.result = ap length c.in_ok-lanes.ensures ∙ length-replicate c.queues_of-processors.result idle in
    let queues : c.queues_of-processors.result ≡ sum_by (λ (i : Interface). i.queues) c.args.interfaces.now = c.queues_of-processors.ensures ∙ ap (sum_by (λ (i : Interface). i.queues)) c.as_slice.ensures in
    record {
      state = c.in_ok-state.ensures ∙ sym (ap after none);
      taken = subst AllTaken (sym none) refl;
      sound = subst IsSoundMoment (sym is) (sound-beginning c.queues_of-processors.result);
      processors = subst (λ n. n < 2 ^ 32) (sym (many ∙ queues)) c.requires;
    }
