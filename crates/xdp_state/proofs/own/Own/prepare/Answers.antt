use Rattle.std.proofs.Common.{ap, ◌∙◌}
use Rattle.std.proofs.lemmas.Result.{on_err_weaker, on_ok_weaker}
use Rattle.xdp_state.specs.Standing.{Standing}
use Rattle.xdp_state.specs.Stores.{prepared}
use Rattle.xdp_state.specs.Trails.{visits_in}
use Rattle.xdp_state.proofs.Ways.{same_carrier}
use Rattle.xdp_state.proofs.own.Own.prepare.Goals as goal

pub returns-clause-ok : goal.returns-clause-ok
returns-clause-ok c =
    let own = c.self.inside in
    let new = c.prepare.new.self in
    on_ok_weaker c.prepare.result (λ stores. rw (← c.self.view_is) (same_carrier
    (record { processor = own.processor; interface = own.interface; queue = own.queue; stores = new.stores.items })
    _ new.frame own.machine.frame (visits_in own.trail) own.verdict own.target
    (ap (λ stores. let standing : Standing = record { processor = own.processor; interface = own.interface; queue = own.queue; stores = stores } in standing)
    (stores ∙ ap (λ chain. prepared c.args.library.now chain own.machine.stores.items) c.chain.ensures))
    c.prepare.ensures.frame)) c.prepare.ensures.stores

pub returns-clause-ready : goal.returns-clause-ready
returns-clause-ready c =
    on_ok_weaker c.prepare.result (λ ready. rw (← c.chain.ensures) ready) c.prepare.ensures.ready

pub returns-clause-err : goal.returns-clause-err
returns-clause-err c =
    let own = c.self.inside in
    let new = c.prepare.new.self in
    on_err_weaker c.prepare.result (λ same. rw (← c.self.view_is) (same_carrier
    (record { processor = own.processor; interface = own.interface; queue = own.queue; stores = new.stores.items })
    _ new.frame own.machine.frame (visits_in own.trail) own.verdict own.target
    (ap (λ stores. let standing : Standing = record { processor = own.processor; interface = own.interface; queue = own.queue; stores = stores } in standing) same)
    c.prepare.ensures.frame)) c.prepare.ensures.err
