use Rattle.filter_rules.specs.declared.policy.Policy.{Policy}
use Rattle.filter_rules.specs.declared.policy.Policy.TheVariants.{Allow, Deny}
use Rattle.xio.specs.declared.action.Action.{Action}
use Rattle.xio.specs.declared.action.Action.TheVariants.{Drop, Pass}

-- a list of packets to drop, or of the only packets to pass
abbrev pub hit_action : Policy → Action
hit_action Allow = Drop
hit_action Deny = Pass

abbrev pub miss_action : Policy → Action
miss_action Allow = Pass
miss_action Deny = Drop
