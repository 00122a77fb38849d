use Rattle.xdp_state.proofs.Attaching.{taken, taken_chain}
use Rattle.xdp_state.proofs.state.take_off.Goals as goal

pub returns-clause-members : goal.returns-clause-members
returns-clause-members c = taken c.remove.result c.args.number c.args.chain.now c.remove.new.self c.remove.ensures.ok c.remove.ensures.none c.remove.ensures.err

pub returns-clause-chain : goal.returns-clause-chain
returns-clause-chain c = λ members is.
    taken_chain c.remove.result c.args.number members c.args.chain.now c.remove.new.self (c.remove.ensures.chain members is) c.remove.ensures.none c.remove.ensures.err is
