use Rattle.std.proofs.Common.{◌<◌, length, subst, sym, arith}
use Rattle.object_load.specs.KnownMaps.{AreKnown}
use Rattle.object_load.proofs.KnownLemmas.{keep_known}
use Rattle.object_load.proofs.known_maps.KnownMaps.keep.Goals as goal

pub returns-then-number-lt4294967295 : goal.returns-then-number-lt4294967295
returns-then-number-lt4294967295 c file maps are here =
    let numbers = c.self.inside.numbers in
    let len = numbers.ok.0 in
    let below : c.args.place < length numbers.items = omega (arith, c.len.ensures, c.if-place-len.true) in
    keep_known file maps numbers.items c.args.place c.args.number below (subst (λ known. AreKnown file maps known) (sym c.self.view_is) are) here
