use Rattle.std.proofs.Common.{Ok, Err, ap, ◌∙◌}
use Rattle.std.proofs.lemmas.Result.{err_from_is_err_and}
use Rattle.object_load.proofs.Refusals.{object_made, object_refused}
use Rattle.object_load.proofs.load.object_of.Goals as goal

pub returns-in_err-read_object : goal.returns-in_err-read_object
returns-in_err-read_object c =
    let p = err_from_is_err_and c.from_residual.result c.from_residual.ensures.1 in
    rw (p.1, p.2) (object_refused c.args.bytes.now c.in_err-read_object.field-0.0 (λ bad is. (c.in_err-read_object.ensures.bad_elf bad).0 (ap Err is)))

pub returns : goal.returns
returns c = ap Ok c.in_ok-read_object.ensures.object ∙ object_made c.args.bytes.now c.in_ok-read_object.ensures.unbroken
