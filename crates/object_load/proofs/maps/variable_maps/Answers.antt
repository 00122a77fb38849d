use Rattle.std.proofs.Common.{Option, Ok, Err, ap, sym, subst}
use Rattle.std.proofs.lemmas.Result.{err_from_is_err_and}
use Rattle.btf_types.specs.TypeTable.{TypeTable}
use Rattle.object_load.specs.Maps.{read, HasVariables}
use Rattle.object_load.specs.Reading.{Answers}
use Rattle.object_load.proofs.Refusals.{variables_refused}
use Rattle.object_load.proofs.maps.variable_maps.Goals as goal

pub returns-in_err-maps_of-in-Some-clause-maps : goal.returns-in_err-maps_of-in-Some-clause-maps
returns-in_err-maps_of-in-Some-clause-maps c =
    let p = err_from_is_err_and c.from_residual.result c.from_residual.ensures.1 in
    subst (λ (types : Option TypeTable). Answers (HasVariables c.args.object.now types) c.from_residual.result) (sym c.in-Some.is)
    (rw (p.1, p.2) (variables_refused c.args.object.now c.in-Some.types c.in_err-maps_of-in-Some.field-0.0 (λ index rule is. c.in_err-maps_of-in-Some.ensures.bad index rule (ap Err is))))

pub returns-in_ok-maps_of-in-Some-clause-maps : goal.returns-in_ok-maps_of-in-Some-clause-maps
returns-in_ok-maps_of-in-Some-clause-maps c =
    subst (λ (types : Option TypeTable). HasVariables c.args.object.now types (Ok c.in_ok-maps_of-in-Some.field-0)) (sym c.in-Some.is) (read c.in_ok-maps_of-in-Some.ensures.maps)
