use Rattle.std.proofs.Common.{◌≡◌, ℕ, subst}
use Rattle.btf_types.specs.TypeTable.{name_at}
use Rattle.run_config.specs.declared.named_map.NamedMap.{NamedMap}
use Rattle.run_config.specs.Maps.{Breaks, by_definition, by_map, IsMap}
use Rattle.run_config.proofs.maps.push_map.Goals as goal

pub returns-in-Err-clause-bad : goal.returns-in-Err-clause-bad
returns-in-Err-clause-bad c index rule e =
    let same : c.in-Err.rule ≡ rule = cc in
    subst (λ (one : ℕ). Breaks c.args.types.now c.args.maps.now c.args.variable.now one) same (by_definition c.in-Err.ensures.defines)

pub returns-clause-bad : goal.returns-clause-bad
returns-clause-bad c index rule e =
    let map : NamedMap = record { name = c.append.new.self; spec = c.in-Ok.spec } in
    let name : c.append.new.self ≡ name_at c.args.types.now c.args.variable.now.name = rw (c.in_ok-append.ensures.ok, c.new-name.ensures) c.name_of.ensures in
    let is : IsMap c.args.types.now c.args.variable.now map = record { name = name; spec = c.in-Ok.ensures.defines } in
    by_map is (c.add_map.ensures.bad index rule e)
