use Rattle.std.proofs.Common.{[], ◌∷◌, ◌++◌, ap, sym, ◌∙◌, arith}
use Rattle.std.proofs.lemmas.List.{take_all}
use Rattle.run_config.proofs.Parts.{take-next}
use Rattle.xdp_state.specs.Trails.{visits_in}
use Rattle.xdp_state.proofs.Ways.{visits-long}
use Rattle.xdp_state.proofs.trail.Trail.copy.Goals as goal

pub loop-place-preserved : goal.loop-place-preserved
loop-place-preserved c =
    c.in_ok-push.ensures.ok
    ∙ ap (λ visits. visits ++ c.in_ok-visit.visit ∷ []) c.loop-place.invariant
    ∙ sym (take-next (visits_in c.args.self.now) c.loop-place.place c.in_ok-visit.visit c.in_ok-visit.ensures)

pub returns : goal.returns
returns c =
    let trail = c.args.self.now in
    let long = visits-long trail.seen.items trail.entries trail.exits c.requires.even.entries c.requires.even.exits in
    c.loop-place.invariant ∙ take_all c.loop-place.place (visits_in trail) (omega (arith, long, c.loop-place-test.false))
