use Rattle.std.proofs.Common.{Err, ap, sym}
use Rattle.std.proofs.lemmas.Result.{err_from_is_err_and}
use Rattle.object_load.proofs.Refusals.{types_made, types_none, types_refused}
use Rattle.object_load.proofs.types.types_in.Goals as goal

pub returns-in_default : goal.returns-in_default
returns-in_default c = types_none c.args.object.now (sym c.in_default.ensures.section)

pub returns-in_err-types : goal.returns-in_err-types
returns-in_err-types c =
    let p = err_from_is_err_and c.from_residual.result c.from_residual.ensures.1 in
    rw (p.1, p.2) (types_refused c.args.object.now c.in-Some.number c.content.result.now (sym c.in-Some.ensures.section) c.content.ensures c.in_err-types.field-0.0 (λ bad is. c.in_err-types.ensures.bad bad (ap Err is)))

pub returns : goal.returns
returns c =
    types_made c.args.object.now c.in-Some.number c.content.result.now (sym c.in-Some.ensures.section) c.content.ensures c.in_ok-types.types c.in_ok-types.ensures.whole c.in_ok-types.ensures.types
