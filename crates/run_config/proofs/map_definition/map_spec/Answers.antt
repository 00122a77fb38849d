use Rattle.std.proofs.Common.{refl}
use Rattle.run_config.specs.MapDefinition.{bad_member, by_members, no_structure}
use Rattle.run_config.proofs.map_definition.map_spec.Goals as goal

pub returns-in_default-clause-defines : goal.returns-in_default-clause-defines
returns-in_default-clause-defines c =
    no_structure (λ structure is. (let none = (c.in_default.ensures.structure structure).1 is in cc))

pub returns-in-Ok-clause-defines : goal.returns-in-Ok-clause-defines
returns-in-Ok-clause-defines c =
    let is = (c.in-Some.ensures.structure c.in-Some.structure.now).0 refl in
    rw (c.spec.ensures.spec c.in-Ok.ensures.values c.in-Ok.ensures.is) (by_members is c.in-Ok.ensures.reads)

pub returns-in-Err-clause-defines : goal.returns-in-Err-clause-defines
returns-in-Err-clause-defines c =
    bad_member ((c.in-Some.ensures.structure c.in-Some.structure.now).0 refl) c.in-Err.ensures
