use Rattle.map_store.specs.Slots.{least_empty}
use Rattle.map_store.proofs.Places.{empty_place, empty_slot}
use Rattle.map_store.proofs.slots.Slots.least_empty.Goals as goal

pub returns-clause-place : goal.returns-clause-place
unfolding least_empty
returns-clause-place c = (empty_place c.self.inside c.args.self.now c.least_empty.result c.self.view_is c.least_empty.ensures).place

pub returns-clause-within : goal.returns-clause-within
returns-clause-within c = (empty_place c.self.inside c.args.self.now c.least_empty.result c.self.view_is c.least_empty.ensures).within

pub returns-clause-empty : goal.returns-clause-empty
returns-clause-empty c = empty_slot c.self.inside c.args.self.now c.least_empty.result c.self.view_is c.least_empty.ensures
