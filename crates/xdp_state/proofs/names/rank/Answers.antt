use Rattle.std.proofs.Common.{◌≡◌, ap, arith}
use Rattle.xdp_state.proofs.Lesser.{bit, rank-counted, rank-fits}
use Rattle.xdp_state.proofs.names.rank.Goals as goal
use Rattle.xdp_state.proofs.names.rank.Goals.{then-is_last_less, else-is_last_less}

pub overflow_cast-result : goal.overflow_cast-result
overflow_cast-result c =
    let library = c.args.library.now in
    let fits = rank-fits library c.args.name.now c.requires.sound.count c.requires.known in
    let value = rw c.as_slice-objects.ensures at c.lesser_in_objects-rank.ensures.value in
    let last = rw c.as_slice-objects.ensures at c.is_last_less.ensures in
    let counted = rank-counted library c.args.name.now c.lesser_in_objects-rank.result c.is_last_less.result value last in
    elim c.if-is_last_less.branch [
      | then-is_last_less w ↦ let one : bit c.is_last_less.result ≡ 1 = ap bit w.if-is_last_less.true in omega (arith, counted, one, w.rank-is, fits)
      | else-is_last_less w ↦ let none : bit c.is_last_less.result ≡ 0 = ap bit w.if-is_last_less.false in omega (arith, counted, none, w.rank-is, fits)
    ]

pub returns : goal.returns
returns c =
    let library = c.args.library.now in
    let value = rw c.as_slice-objects.ensures at c.lesser_in_objects-rank.ensures.value in
    let last = rw c.as_slice-objects.ensures at c.is_last_less.ensures in
    let counted = rank-counted library c.args.name.now c.lesser_in_objects-rank.result c.is_last_less.result value last in
    elim c.if-is_last_less.branch [
      | then-is_last_less w ↦ let one : bit c.is_last_less.result ≡ 1 = ap bit w.if-is_last_less.true in omega (arith, counted, one, w.rank-is)
      | else-is_last_less w ↦ let none : bit c.is_last_less.result ≡ 0 = ap bit w.if-is_last_less.false in omega (arith, counted, none, w.rank-is)
    ]
