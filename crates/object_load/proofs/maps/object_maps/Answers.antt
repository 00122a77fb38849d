use Rattle.std.proofs.Common.{ℕ, List, subst}
use Rattle.std.proofs.lemmas.Result.{err_from_is_err_and}
use Rattle.object_load.specs.Maps.{with_constants, HasVariables}
use Rattle.object_load.specs.Reading.{Answers, Is}
use Rattle.object_load.specs.Sections.{constant_sections}
use Rattle.object_load.proofs.Readings.{then_ends, then_goes_on}
use Rattle.object_load.proofs.maps.object_maps.Goals as goal

pub returns-in_err-maps-clause-maps : goal.returns-in_err-maps-clause-maps
returns-in_err-maps-clause-maps c =
    let file = c.args.object.now in
    let p = err_from_is_err_and c.from_residual.result c.from_residual.ensures.1 in
    rw (p.1, p.2) (then_ends (HasVariables file c.args.types.now) (λ maps. Is (with_constants file maps (constant_sections file))) c.in_err-maps.field-0.0 c.in_err-maps.ensures.maps)

pub returns-clause-maps : goal.returns-clause-maps
returns-clause-maps c =
    let file = c.args.object.now in
    let made = subst (λ (numbers : List ℕ). Answers (Is (with_constants file c.in_ok-maps.maps numbers)) c.with_constants.result) c.requires.constants c.with_constants.ensures.maps in
    then_goes_on (HasVariables file c.args.types.now) (λ maps. Is (with_constants file maps (constant_sections file))) c.in_ok-maps.maps c.with_constants.result c.in_ok-maps.ensures.maps made
