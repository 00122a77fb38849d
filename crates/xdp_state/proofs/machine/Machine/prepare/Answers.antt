use Rattle.std.proofs.Common.{◌≡◌, List, ◌++◌, ap, sym, ◌∙◌, subst}
use Rattle.xdp_state.specs.Stores.{AreReady, MemberMaps, entering, prepared, staying}
use Rattle.xdp_state.proofs.Stores.{ready_prepared}
use Rattle.xdp_state.proofs.machine.Machine.prepare.Goals as goal

pub returns-clause-stores : goal.returns-clause-stores
unfolding prepared
returns-clause-stores c =
    let stores = c.args.self.now.stores.items in
    let front : c.keep_staying.new.stores.items ≡ staying c.args.library.now c.args.chain.now stores =
    c.keep_staying.ensures.stores ∙ ap (λ (stores : List MemberMaps). staying c.args.library.now c.args.chain.now stores) c.reserve.ensures.items in
    let behind : c.in_ok-made.made.items ≡ entering c.args.library.now c.args.chain.now stores =
    c.in_ok-made.ensures.made ∙ ap (λ (stores : List MemberMaps). entering c.args.library.now c.args.chain.now stores) c.deref.ensures.value in
    c.append.ensures ∙ ap (λ (front : List MemberMaps). front ++ c.in_ok-made.made.items) front
    ∙ ap (λ (behind : List MemberMaps). staying c.args.library.now c.args.chain.now stores ++ behind) behind

pub returns-clause-ready : goal.returns-clause-ready
returns-clause-ready c =
    subst (λ stores. AreReady c.args.library.now stores c.args.chain.now) (sym (returns-clause-stores c))
    (ready_prepared c.args.library.now c.args.chain.now c.args.self.now.stores.items c.entering.ensures.ordered)
