use Rattle.std.proofs.Common.{ℕ, List, Err, subst}
use Rattle.std.proofs.lemmas.Result.{err_from_is_err_and}
use Rattle.object_load.specs.Load.{LoadsObject, LoadsSymbols}
use Rattle.object_load.specs.Reading.{Answers, Is}
use Rattle.object_load.specs.Symbols.{object_of, programs_in}
use Rattle.object_load.proofs.Readings.{then_ends, then_goes_on}
use Rattle.object_load.proofs.load.load_object.Goals as goal

pub returns-in_err-object-clause-programs : goal.returns-in_err-object-clause-programs
returns-in_err-object-clause-programs c =
    let p = err_from_is_err_and c.from_residual.result c.from_residual.ensures.1 in
    rw (p.1, p.2) (then_ends (Is (object_of c.args.bytes.now)) LoadsObject c.in_err-object.field-0.0 c.in_err-object.ensures)

pub returns-in_err-indexes-clause-programs : goal.returns-in_err-indexes-clause-programs
returns-in_err-indexes-clause-programs c =
    let p = err_from_is_err_and c.from_residual-in_err-indexes.result c.from_residual-in_err-indexes.ensures.1 in
    let object = c.in_ok-object.object in
    rw (p.1, p.2)
    (then_goes_on (Is (object_of c.args.bytes.now)) LoadsObject object (Err c.in_err-indexes.field-0.0) c.in_ok-object.ensures
    (then_ends (Is (programs_in object)) (LoadsSymbols object) c.in_err-indexes.field-0.0 c.in_err-indexes.ensures.symbols))

pub returns-clause-programs : goal.returns-clause-programs
returns-clause-programs c =
    let object = c.in_ok-object.object in
    let indexes = c.in_ok-indexes.indexes in
    let loads = subst (λ (xs : List ℕ). Answers (LoadsSymbols object xs) c.load_all.result) c.as_slice.ensures c.load_all.ensures.programs in
    then_goes_on (Is (object_of c.args.bytes.now)) LoadsObject object c.load_all.result c.in_ok-object.ensures
    (then_goes_on (Is (programs_in object)) (LoadsSymbols object) indexes c.load_all.result c.in_ok-indexes.ensures.symbols loads)
