use Rattle.run_config.proofs.MapsLemmas.{apart, break-unique, maps-unique}
use Rattle.run_config.proofs.laws.one_answer.Goals as goal

pub returns-clause-maps : goal.returns-clause-maps
returns-clause-maps c types = maps-unique types

pub returns-clause-breaks : goal.returns-clause-breaks
returns-clause-breaks c types = break-unique types

pub returns-clause-apart : goal.returns-clause-apart
returns-clause-apart c types = apart types
