use Rattle.std.proofs.Common.{List, Ok, Err, subst}
use Rattle.std.proofs.lemmas.Result.{err_from_is_err_and}
use Rattle.run_config.specs.declared.named_map.NamedMap.{NamedMap}
use Rattle.object_load.specs.declared.drafts.Draft.{Draft}
use Rattle.object_load.specs.declared.drafts.Function.{Function}
use Rattle.object_load.specs.Code.{AreDrafts}
use Rattle.object_load.specs.Load.{ArePrograms, LoadsFunctions, LoadsMapped, LoadsTyped}
use Rattle.object_load.specs.Maps.{HasMaps}
use Rattle.object_load.specs.Reading.{Answers, Is}
use Rattle.object_load.specs.Types.{types_in, AreFunctions}
use Rattle.object_load.proofs.Readings.{then_ends, then_goes_on}
use Rattle.object_load.proofs.load.load_all.Goals as goal

pub returns-in_err-types-clause-programs : goal.returns-in_err-types-clause-programs
returns-in_err-types-clause-programs c =
    let p = err_from_is_err_and c.from_residual.result c.from_residual.ensures.1 in
    rw (p.1, p.2) (then_ends (Is (types_in c.args.object.now)) (LoadsTyped c.args.object.now c.args.indexes.now) c.in_err-types.field-0.0 c.in_err-types.ensures)

pub returns-in_err-functions-clause-programs : goal.returns-in_err-functions-clause-programs
returns-in_err-functions-clause-programs c =
    let file = c.args.object.now in
    let types = c.in_ok-types.types in
    let p = err_from_is_err_and c.from_residual-in_err-functions.result c.from_residual-in_err-functions.ensures.1 in
    rw (p.1, p.2)
    (then_goes_on (Is (types_in file)) (LoadsTyped file c.args.indexes.now) types (Err c.in_err-functions.field-0.0) c.in_ok-types.ensures
    (then_ends (AreFunctions file types c.args.indexes.now) (LoadsFunctions file types) c.in_err-functions.field-0.0 c.in_err-functions.ensures.functions))

pub returns-in_err-maps-clause-programs : goal.returns-in_err-maps-clause-programs
returns-in_err-maps-clause-programs c =
    let file = c.args.object.now in
    let types = c.in_ok-types.types in
    let functions = c.in_ok-functions.functions in
    let end = c.in_err-maps.field-0.0 in
    let p = err_from_is_err_and c.from_residual-in_err-maps.result c.from_residual-in_err-maps.ensures.1 in
    rw (p.1, p.2)
    (then_goes_on (Is (types_in file)) (LoadsTyped file c.args.indexes.now) types (Err end) c.in_ok-types.ensures
    (then_goes_on (AreFunctions file types c.args.indexes.now) (LoadsFunctions file types) functions (Err end) c.in_ok-functions.ensures.functions
    (then_ends (HasMaps file types) (LoadsMapped file functions) end c.in_err-maps.ensures.maps)))

pub returns-in_err-drafts-clause-programs : goal.returns-in_err-drafts-clause-programs
returns-in_err-drafts-clause-programs c =
    let file = c.args.object.now in
    let types = c.in_ok-types.types in
    let functions = c.in_ok-functions.functions in
    let maps = c.in_ok-maps.maps in
    let end = c.in_err-drafts.field-0.0 in
    let p = err_from_is_err_and c.from_residual-in_err-drafts.result c.from_residual-in_err-drafts.ensures.1 in
    let ends = subst (λ (xs : List Function). Answers (AreDrafts file xs) (Err end)) c.as_slice-2.ensures c.in_err-drafts.ensures.drafts in
    rw (p.1, p.2)
    (then_goes_on (Is (types_in file)) (LoadsTyped file c.args.indexes.now) types (Err end) c.in_ok-types.ensures
    (then_goes_on (AreFunctions file types c.args.indexes.now) (LoadsFunctions file types) functions (Err end) c.in_ok-functions.ensures.functions
    (then_goes_on (HasMaps file types) (LoadsMapped file functions) maps (Err end) c.in_ok-maps.ensures.maps
    (then_ends (AreDrafts file functions) (ArePrograms file maps) end ends))))

pub returns-clause-programs : goal.returns-clause-programs
returns-clause-programs c =
    let file = c.args.object.now in
    let types = c.in_ok-types.types in
    let functions = c.in_ok-functions.functions in
    let maps = c.in_ok-maps.maps in
    let drafts = c.in_ok-drafts.drafts in
    let result = c.make_programs.result in
    let made = subst (λ (xs : List Function). AreDrafts file xs (Ok drafts)) c.as_slice-2.ensures c.in_ok-drafts.ensures.drafts in
    let programs = subst (λ (xs : List Draft). Answers (ArePrograms file maps xs) result) c.as_slice-4.ensures (subst (λ (xs : List NamedMap). Answers (ArePrograms file xs c.as_slice-4.result.now) result) c.as_slice-3.ensures c.make_programs.ensures.programs) in
    then_goes_on (Is (types_in file)) (LoadsTyped file c.args.indexes.now) types result c.in_ok-types.ensures
    (then_goes_on (AreFunctions file types c.args.indexes.now) (LoadsFunctions file types) functions result c.in_ok-functions.ensures.functions
    (then_goes_on (HasMaps file types) (LoadsMapped file functions) maps result c.in_ok-maps.ensures.maps
    (then_goes_on (AreDrafts file functions) (ArePrograms file maps) drafts result made programs)))
