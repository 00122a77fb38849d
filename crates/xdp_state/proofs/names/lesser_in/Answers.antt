use Rattle.std.proofs.Common.{◌≡◌, ◌+◌, drop, ap, sym, ◌∙◌, arith}
use Rattle.std.proofs.lemmas.List.{take_rest}
use Rattle.object_load.specs.declared.program.Program.{Program}
use Rattle.xdp_state.specs.Library.{is_last_less}
use Rattle.xdp_state.proofs.Lesser.{bit, lesser-next}
use Rattle.xdp_state.proofs.names.lesser_in.Goals as goal
use Rattle.xdp_state.proofs.names.lesser_in.Goals.{then-is_last_less, else-is_last_less}

pub loop-place-preserved : goal.loop-place-preserved
loop-place-preserved c =
    let programs = c.args.programs.now in
    let behind = c.args.behind.now in
    let name = c.args.name.now in
    let place = c.loop-place.place in
    let program = c.index-programs-place.result in
    let other = c.as_slice-other.ensures ∙ ap (λ (p : Program). p.name) (sym c.index-programs-place.is) in
    let last : c.is_last_less.result ≡ is_last_less program.name (drop (place + 1) programs) behind name = rw (take_rest programs (place + 1), other) at c.is_last_less.ensures in
    let next = lesser-next programs behind name place program (omega arith) c.index-programs-place.is in
    elim c.if-is_last_less.branch [
      | then-is_last_less w ↦
          let one : bit (is_last_less program.name (drop (place + 1) programs) behind name) ≡ 1 = ap bit (sym last ∙ w.if-is_last_less.true) in
          record {
            value = omega (arith, next, one, w.rank-is, c.loop-place.invariant.value);
            within = omega (arith, w.rank-is, c.loop-place.invariant.within);
          }
      | else-is_last_less w ↦
          let none : bit (is_last_less program.name (drop (place + 1) programs) behind name) ≡ 0 = ap bit (sym last ∙ w.if-is_last_less.false) in
          record {
            value = omega (arith, next, none, w.rank-is, c.loop-place.invariant.value);
            within = omega (arith, w.rank-is, c.loop-place.invariant.within);
          }
    ]
