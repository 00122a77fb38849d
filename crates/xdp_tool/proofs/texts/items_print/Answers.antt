use Rattle.std.proofs.Common.{add-zero, ap, ◌∙◌, arith, append-nil, sym}
use Rattle.std.proofs.lemmas.List.{take_rest}
use Rattle.xio.proofs.PrintLemmas.{printed_all, printed_more, printed_none, printed_stop}
use Rattle.xdp_tool.proofs.Tables.{goes-whole, items-front, items-none, items-step}
use Rattle.xdp_state.specs.Book.{after}
use Rattle.xdp_tool.proofs.texts.items_print.Goals as goal

pub loop-item-init : goal.loop-item-init
loop-item-init g c = record {
  within = omega arith;
  state = λ before state taken rising. record { now = state ∙ ap after (sym (append-nil before)); rising = rw add-zero rising };
  text = λ before past state sums taken rising. printed_none _ _ _ _;
}

pub loop-item-preserved : goal.loop-item-preserved
loop-item-preserved g c =
    let inv = c.loop-item.invariant in
    let i = c.loop-item.item-index in
    record {
      within = omega (arith, c.max-place.ensures, c.min-due.ensures, inv.within);
      state = λ before state taken rising.
          let at = inv.state before state taken rising in
          let step = items-step before c.args.changes.now c.args.items.now i _ c.count-start.result c.saturating_sub.result c.min-due.result c.loop-item.done c.max-place.result c.loop-item.state c.absorb_all.new.state taken (c.count-start.ensures ∙ ap (λ b. b.count) state) (omega (arith, c.loop-item-test.true)) inv.within c.saturating_sub.ensures c.min-due.ensures c.max-place.ensures at.now at.rising c.absorb_all.ensures in
          record { now = step.now; rising = step.rising };
      text = λ before past state sums taken rising.
          let at = inv.state before state taken rising in
          let step = items-step before c.args.changes.now c.args.items.now i _ c.count-start.result c.saturating_sub.result c.min-due.result c.loop-item.done c.max-place.result c.loop-item.state c.absorb_all.new.state taken (c.count-start.ensures ∙ ap (λ b. b.count) state) (omega (arith, c.loop-item-test.true)) inv.within c.saturating_sub.ensures c.min-due.ensures c.max-place.ensures at.now at.rising c.absorb_all.ensures in
          printed_more _ _ (inv.text before past state sums taken rising)
          (items-front c.args.library.now past _ c.args.items.now i _ c.absorb_all.new.state (omega (arith, c.loop-item-test.true)) step.shown)
          (c.in_ok-item_print.ensures past sums);
    }

pub returns-in_err-item_print-clause-prints : goal.returns-in_err-item_print-clause-prints
returns-in_err-item_print-clause-prints g c = λ before past state sums taken rising.
    let inv = c.loop-item.invariant in
    let i = c.loop-item.item-index in
    let at = inv.state before state taken rising in
    let step = items-step before c.args.changes.now c.args.items.now i _ c.count-start.result c.saturating_sub.result c.min-due.result c.loop-item.done c.max-place.result c.loop-item.state c.absorb_all.new.state taken (c.count-start.ensures ∙ ap (λ b. b.count) state) (omega (arith, c.loop-item-test.true)) inv.within c.saturating_sub.ensures c.min-due.ensures c.max-place.ensures at.now at.rising c.absorb_all.ensures in
    printed_stop _ _ c.from_residual.result c.from_residual.ensures.0 (inv.text before past state sums taken rising)
    (items-front c.args.library.now past _ c.args.items.now i _ c.absorb_all.new.state (omega (arith, c.loop-item-test.true)) step.shown)
    (c.in_err-item_print.ensures past sums)

pub returns-clause-prints : goal.returns-clause-prints
returns-clause-prints g c = λ before past state sums taken rising.
    printed_all (c.loop-item.invariant.text before past state sums taken rising)
    (items-none c.args.library.now past _ c.args.items.now c.loop-item.item-index (omega (arith, c.loop-item-test.false)))

pub returns-clause-state : goal.returns-clause-state
returns-clause-state g c = λ before state taken rising.
    let inv = (c.loop-item.invariant.state before state taken rising).now in
    rw take_rest at c.absorb_all-2.ensures ∙ goes-whole before c.args.changes.now c.loop-item.done c.loop-item.state inv
