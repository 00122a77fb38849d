use Rattle.std.proofs.Common.{arith}
use Rattle.std.proofs.lemmas.Result.{err_from_is_err_and}
use Rattle.object_load.proofs.ConstantMaps.{made_all, refused_at}
use Rattle.object_load.proofs.maps.with_constants.Goals as goal

pub returns-in_err-push_constants-clause-maps : goal.returns-in_err-push_constants-clause-maps
returns-in_err-push_constants-clause-maps c =
    let p = err_from_is_err_and c.from_residual.result c.from_residual.ensures.1 in
    rw (p.1, p.2) (refused_at c.args.object.now c.args.maps c.loop-number.maps c.args.numbers.now c.loop-number.number-index (omega arith) c.loop-number.invariant.left c.in_err-push_constants.field-0.0 c.in_err-push_constants.ensures.bad)

pub returns-clause-maps : goal.returns-clause-maps
returns-clause-maps c =
    made_all c.args.object.now c.args.maps c.loop-number.maps c.args.numbers.now c.loop-number.number-index (omega arith) c.loop-number.invariant.maps c.loop-number.invariant.left
