use Rattle.std.proofs.Common.{◌==◌, ◌∙◌, arith}
use Rattle.std.proofs.lemmas.List.Splits.{length-slice_split}
use Rattle.script_text.proofs.Ip6Lemmas.{group_fits, groups_full}
use Rattle.script_text.specs.Words.{parts_of}
use Rattle.script_text.proofs.ip6.groups_of.Goals as goal

pub overflow_mul-groups : goal.overflow_mul-groups
overflow_mul-groups c =
    let fits = group_fits c.loop-groups.groups.number 0 c.loop-groups.groups.count c.loop-groups.invariant.small (omega arith) (omega arith) in
    omega arith

pub overflow_add-groups-in-loop-groups : goal.overflow_add-groups-in-loop-groups
overflow_add-groups-in-loop-groups c =
    let fits = group_fits c.loop-groups.groups.number c.from.result c.loop-groups.groups.count c.loop-groups.invariant.small (omega arith) (omega arith) in
    omega arith

pub returns-clause-groups : goal.returns-clause-groups
returns-clause-groups c =
    c.loop-groups.invariant.groups
    ∙ groups_full (record { count = c.loop-groups.groups.count; number = c.loop-groups.groups.number }) (parts_of 58 c.loop-groups.rest.now)
    (omega arith) (omega (arith, length-slice_split (λ b. b == 58) c.loop-groups.rest.now))
