use Rattle.std.proofs.Common.{◌≡◌, subst, take, arith}
use Rattle.run_config.specs.Given.{AreGiven}
use Rattle.run_config.specs.Variables.{parts_of}
use Rattle.run_config.proofs.Joining.{given_none}
use Rattle.run_config.proofs.Parts.{take-parts}
use Rattle.run_config.proofs.map_definition.read_members.Goals as goal

pub loop-place-init : goal.loop-place-init
loop-place-init c = given_none c.args.types.now c.nothing.result c.nothing.ensures

pub loop-place-preserved : goal.loop-place-preserved
loop-place-preserved c =
    rw c.part_at-member.ensures.so_far (c.joined-given.ensures c.args.types.now (take c.loop-place.place (parts_of c.args.types.now c.args.structure.now)) c.part_at-member.result.now c.loop-place.invariant c.read_member.ensures)

pub returns : goal.returns
returns c =
    let types = c.args.types.now in
    let structure = c.args.structure.now in
    let all : c.loop-place.place ≡ structure.count = omega arith in
    let front : take c.loop-place.place (parts_of types structure) ≡ parts_of types structure = rw all (take-parts types structure) in
    subst (λ members. AreGiven types members c.loop-place.given) front c.loop-place.invariant
