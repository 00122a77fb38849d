use Rattle.std.proofs.Common.{◌≡◌, ◌+◌, ◌++◌, ◌∷◌, [], List, codes, drop, take, Err, ap, subst, sym, ◌∙◌, arith}
use Rattle.std.proofs.lemmas.List.{take-append-drop}
use Rattle.std.proofs.lemmas.Result.{err_from_is_err_and}
use Rattle.btf_types.specs.declared.types.Part.{Part}
use Rattle.btf_types.specs.declared.types.TypeRow.{TypeRow}
use Rattle.run_config.specs.declared.named_map.MapsEnd.TheVariants.{BadMap}
use Rattle.run_config.specs.declared.named_map.NamedMap.{NamedMap}
use Rattle.run_config.specs.Maps.{AreMaps, IsFirstBreak}
use Rattle.run_config.specs.Variables.{parts_of}
use Rattle.run_config.proofs.FirstVariable.{variables-none, variables-some}
use Rattle.run_config.proofs.MapsFront.{among, are_maps-none, are_maps-other, are_maps-push, first_break}
use Rattle.run_config.proofs.Parts.{take-parts}
use Rattle.run_config.proofs.maps.maps_of.Goals as goal

pub returns-in_default-clause-maps : goal.returns-in_default-clause-maps
returns-in_default-clause-maps c =
    let types = c.args.types.now in
    let maps = subst (λ (maps : List NamedMap). AreMaps types [] maps) (sym c.new-maps.ensures) (are_maps-none types) in
    subst (λ (variables : List TypeRow). AreMaps types variables c.new-maps.result) (sym (variables-none types (codes ".maps") (sym c.in_default.ensures.section))) maps

pub loop-place-init : goal.loop-place-init
loop-place-init c = rw c.new-maps.ensures (are_maps-none c.args.types.now)

pub loop-place-preserved-in_default-variable_of : goal.loop-place-preserved-in_default-variable_of
loop-place-preserved-in_default-variable_of c =
    let types = c.args.types.now in
    let entries = parts_of types c.in-Some.section.now in
    are_maps-other types (take c.loop-place.place entries) (take (c.loop-place.place + 1) entries) c.part_at.result.now c.loop-place.maps c.part_at.ensures.so_far (sym c.in_default-variable_of.ensures.variable) c.loop-place.invariant

pub loop-place-preserved : goal.loop-place-preserved
loop-place-preserved c =
    let types = c.args.types.now in
    let entries = parts_of types c.in-Some.section.now in
    are_maps-push types (take c.loop-place.place entries) (take (c.loop-place.place + 1) entries) c.part_at.result.now c.in-Some-variable_of.variable.now c.loop-place.maps c.push_map.new.maps c.part_at.ensures.so_far (sym c.in-Some-variable_of.ensures.variable) c.in_ok-push_map.ensures.pushed c.loop-place.invariant

pub returns-in_err-push_map-clause-bad : goal.returns-in_err-push_map-clause-bad
returns-in_err-push_map-clause-bad c index rule e =
    let types = c.args.types.now in
    let section = c.in-Some.section.now in
    let entries = parts_of types section in
    let place = c.loop-place.place in
    let p = err_from_is_err_and c.from_residual.result c.from_residual.ensures.1 in
    let end : c.in_err-push_map.field-0.0 ≡ BadMap index rule = cc (p.1, p.2, e) in
    let all : entries ≡ take place entries ++ c.part_at.result.now ∷ drop (place + 1) entries = sym (take-append-drop place entries) ∙ ap (λ (rest : List Part). take place entries ++ rest) c.part_at.ensures.left in
    let breaks = first_break types (take place entries) entries (drop (place + 1) entries) c.part_at.result.now c.in-Some-variable_of.variable.now c.loop-place.maps index rule all (sym c.in-Some-variable_of.ensures.variable) (c.in_err-push_map.ensures.index index rule (ap Err end)) (c.in_err-push_map.ensures.bad index rule (ap Err end)) c.loop-place.invariant in
    subst (λ (variables : List TypeRow). IsFirstBreak types variables index rule) (sym (variables-some types (codes ".maps") section (sym c.in-Some.ensures.section))) breaks

pub returns-clause-maps : goal.returns-clause-maps
returns-clause-maps c =
    let types = c.args.types.now in
    let section = c.in-Some.section.now in
    let all : c.loop-place.place ≡ section.count = omega arith in
    let front : take c.loop-place.place (parts_of types section) ≡ parts_of types section = rw all (take-parts types section) in
    let maps = subst (λ (entries : List Part). AreMaps types (among types entries) c.loop-place.maps) front c.loop-place.invariant in
    subst (λ (variables : List TypeRow). AreMaps types variables c.loop-place.maps) (sym (variables-some types (codes ".maps") section (sym c.in-Some.ensures.section))) maps
