use Rattle.filter_rules.proofs.Keys.{different-set, different-clear}
use Rattle.filter_rules.proofs.laws.different_keys.Goals as goal

pub returns-clause-set : goal.returns-clause-set
returns-clause-set c = different-set

pub returns-clause-clear : goal.returns-clause-clear
returns-clause-clear c = different-clear
