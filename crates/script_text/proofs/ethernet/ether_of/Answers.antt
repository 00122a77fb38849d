use Rattle.std.proofs.Common.{◌≡◌, ◌<◌, Some, length, take, sym, ◌∙◌, ap, arith}
use Rattle.std.proofs.lemmas.List.{take_more_set, length-take, length-set}
use Rattle.script_text.specs.Addresses.{octets_of}
use Rattle.script_text.proofs.EthernetLemmas.{address_from-front, address_from-single, address_from-several, address_from-sixth}
use Rattle.script_text.proofs.ethernet.ether_of.Goals as goal

pub returns-in_err-octet : goal.returns-in_err-octet
returns-in_err-octet c =
    let few : length (take c.loop-place.place c.loop-place.octets) < 5 = rw length-take (omega arith) in
    c.from_residual.ensures ∙ sym (c.loop-place.invariant.reading ∙ address_from-single _ _ few c.in_err-octet.ensures.none)

pub loop-place-preserved : goal.loop-place-preserved
loop-place-preserved c =
    let within : c.loop-place.place < length c.loop-place.octets = omega (arith, c.loop-place.invariant.six) in
    record {
      reading = c.loop-place.invariant.reading ∙ rw (c.in_ok-octet.ensures.found, take_more_set) (
          address_from-front (take c.loop-place.place c.loop-place.octets) c.in_ok-octet.octet (octets_of c.in_ok-octet.behind.now));
      six = length-set _ _ _ ∙ c.loop-place.invariant.six;
    }

pub returns-in_err-octets : goal.returns-in_err-octets
returns-in_err-octets c =
    let five : length (take c.loop-place.place c.loop-place.octets) ≡ 5 = rw length-take (omega (arith, c.loop-place.invariant.six)) in
    c.from_residual-in_err-octets.ensures ∙ sym (c.loop-place.invariant.reading ∙ address_from-several _ _ five c.in_err-octets.ensures.none)

pub returns : goal.returns
returns c =
    let five : c.loop-place.place ≡ 5 = omega arith in
    sym (rw (five, c.in_ok-octets.ensures.found) at c.loop-place.invariant.reading ∙ address_from-sixth _ _ c.loop-place.invariant.six ∙ ap Some (sym c.read_u48.ensures))
