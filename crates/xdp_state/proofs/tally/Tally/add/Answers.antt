use Rattle.xdp_state.specs.Sums.{rules_of}
use Rattle.xdp_state.proofs.Tallies.{tally-add}
use Rattle.xdp_state.proofs.tally.Tally.add.Goals as goal

pub returns-clause-ok : goal.returns-clause-ok
returns-clause-ok c = λ carried is.
    tally-add c.args.self.now c.add.new.self c.raise.new.sums c.raise-2.new.sums carried
    (record { verdict = c.args.verdict; handed = c.args.handed; rules = rules_of c.args.visits.now }) is
    c.in_ok-add.ensures.ok c.raise.ensures.five c.raise-2.ensures.five
    (λ a below. rw c.number.ensures.value at (c.raise.ensures.each a below))
    (λ a below. rw c.number-2.ensures.value at (c.raise-2.ensures.each a below))
