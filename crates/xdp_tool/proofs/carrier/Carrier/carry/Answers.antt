use Rattle.std.proofs.Common.{◌≡◌, ◌+◌, ◌≤◌, ◌++◌, length, length-append, append-nil, refl, sym, ap, ◌∙◌, arith}
use Rattle.std.proofs.lemmas.List.{take_all}
use Rattle.xdp_state.specs.Book.{after}
use Rattle.xdp_tool.proofs.Due.{all-end, all-start, if_ok-both, state-at, state-more}
use Rattle.xdp_tool.proofs.carrier.Carrier.carry.Goals as goal

pub loop-change-init : goal.loop-change-init
loop-change-init c = λ before standings stands taken due.
    let changes = c.args.changes.now in
    let published = before ++ changes in
    let now = stands.state ∙ ap after (sym (append-nil before)) in
    let at = state-at before changes 0 c.args.self.now.state taken (omega arith) now in
    let count : c.args.self.now.state.count ≡ length before = at.count ∙ omega arith in
    record {
      state = now;
      up = rw at.count at (c.in_ok-carry_due.ensures published standings at.is
          (rw count (all-start c.args.library.now published (length before) (length published) standings c.args.hand_ins.now c.args.counts.now c.args.self.now.processors.items refl stands.processors due)));
    }

pub loop-change-preserved : goal.loop-change-preserved
loop-change-preserved c = λ before standings stands taken due.
    let inv = c.loop-change.invariant before standings stands taken due in
    let changes = c.args.changes.now in
    let published = before ++ changes in
    let i = c.loop-change.change-index in
    let now = state-more before changes i _ c.loop-change.self.state c.absorb.new.self (omega (arith, c.loop-change-test.true)) inv.state c.absorb.ensures in
    let at = state-at before changes (i + 1) c.absorb.new.self taken (omega (arith, c.loop-change-test.true)) now in
    let count : c.absorb.new.self.count ≡ length before + i + 1 = at.count ∙ omega arith in
    record {
      state = now;
      up = rw at.count at (c.in_ok-carry_due-2.ensures published standings at.is (rw count inv.up));
    }

pub returns : goal.returns
returns c = λ before standings stands taken due.
    let inv = c.loop-change.invariant before standings stands taken due in
    let changes = c.args.changes.now in
    let published = before ++ changes in
    let i = c.loop-change.change-index in
    let all : length changes ≤ i = omega arith in
    let end = all-end c.args.library.now published (length before + i + 1) standings c.args.hand_ins.now c.args.counts.now c.loop-change.self.processors.items (omega (arith, length-append before changes)) inv.up in
    if_ok-both c.finish_all.result _ _ _ (λ carried lists idle. record {
      lists = lists ∙ end.carried;
      stands = record { state = inv.state ∙ ap (λ xs. after (before ++ xs)) (take_all i changes all); processors = idle };
    }) c.finish_all.ensures.carried (c.finish_all.ensures.idle _ end.standing)
