use Rattle.xdp_state.proofs.Tallies.{tally-merge}
use Rattle.xdp_state.proofs.tally.Tally.merge.Goals as goal

pub returns-clause-ok : goal.returns-clause-ok
returns-clause-ok c = λ mine theirs is other.
    tally-merge c.args.self.now c.args.other.now c.merge.new.self c.raise_all.new.sums c.raise_all-2.new.sums mine theirs is other
    c.in_ok-merge.ensures.ok c.raise_all.ensures.five c.raise_all-2.ensures.five c.raise_all.ensures.each c.raise_all-2.ensures.each
