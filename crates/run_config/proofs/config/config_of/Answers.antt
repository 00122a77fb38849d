use Rattle.std.proofs.Common.{refl, sym}
use Rattle.run_config.specs.Config.{by_default, no_structure}
use Rattle.run_config.proofs.ConfigLemmas.{config_by, exactly}
use Rattle.run_config.proofs.config.config_of.Goals as goal

pub returns-in_default : goal.returns-in_default
returns-in_default c =
    rw c.default_config.ensures.value (exactly c.args.types.now c.args.function.now (by_default (sym c.in_default.ensures.variable)))

pub returns-in_default-structure_of : goal.returns-in_default-structure_of
returns-in_default-structure_of c =
    exactly c.args.types.now c.args.function.now (no_structure (sym c.in-Some.ensures.variable) (λ structure is. (let none = (c.in_default-structure_of.ensures.structure structure).1 is in cc)))

pub returns : goal.returns
returns c =
    let structure = c.in-Some-structure_of.structure.now in
    exactly c.args.types.now c.args.function.now (config_by c.args.types.now c.args.function.now c.read_config.result (sym c.in-Some.ensures.variable) ((c.in-Some-structure_of.ensures.structure structure).0 refl) c.read_config.ensures)
