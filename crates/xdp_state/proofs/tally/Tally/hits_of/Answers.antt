use Rattle.std.proofs.Common.{◌∙◌}
use Rattle.xdp_state.proofs.Tallies.{tally-hits}
use Rattle.xdp_state.proofs.tally.Tally.hits_of.Goals as goal

pub returns-clause-hits : goal.returns-clause-hits
returns-clause-hits c = λ carried is. c.hits_of.ensures ∙ tally-hits c.args.self.now carried c.args.rule is
