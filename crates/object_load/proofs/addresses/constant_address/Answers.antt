use Rattle.std.proofs.Common.{◌≡◌, ℕ, ℤ, ◌+◌, ◌-◌, ◌==◌, length, Some, ap, refl, sym, ◌∙◌, arith}
use Rattle.std.specs.List.{position, slice_get}
use Rattle.std.proofs.lemmas.Int.{ints}
use Rattle.std.proofs.lemmas.List.Quantifiers.{position-Some}
use Rattle.std.proofs.lemmas.Option.{slice_get_read}
use Rattle.run_config.proofs.Kept.{kept-bounds}
use Rattle.run_config.proofs.MapBreaks.{spec_kept}
use Rattle.object_load.specs.Linking.{value_address}
use Rattle.object_load.proofs.Addressing.{constant_at}
use Rattle.object_load.proofs.addresses.constant_address.Goals as goal

pub value_address-requires-clause-size : goal.value_address-requires-clause-size
value_address-requires-clause-size c =
    let one = c.index-maps-number.result in
    let place = c.in_ok-place.place in
    let within = position-Some (λ number. number == c.from.result) c.args.constants.now place 0 (sym c.in_ok-place.ensures) in
    let number = length c.args.maps.now - length c.args.constants.now + place in
    (kept-bounds one.spec (spec_kept c.args.maps.now number one c.index-maps-number.is (omega (arith, within.0)) c.requires.makeable)).1

pub returns : goal.returns
returns c =
    let one = c.index-maps-number.result in
    let place = c.in_ok-place.place in
    let found : position (λ number. number == c.args.symbol.section) c.args.constants.now ≡ Some place = ap (λ (n : ℕ). position (λ number. number == n) c.args.constants.now) (sym c.from.ensures) ∙ sym c.in_ok-place.ensures in
    let within = position-Some (λ number. number == c.args.symbol.section) c.args.constants.now place 0 found in
    let number = length c.args.maps.now - length c.args.constants.now + place in
    let there : slice_get c.args.maps.now number ≡ Some one = slice_get_read c.args.maps.now (length c.args.maps.now) number one refl (omega (arith, within.0)) c.index-maps-number.is in
    c.value_address.ensures ∙ ap (λ (offset : ℤ). value_address number one offset) (omega (arith, ints)) ∙ sym (constant_at c.args.maps.now c.args.constants.now c.args.symbol c.args.imm place one found there)
