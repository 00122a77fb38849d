use Rattle.std.proofs.Common.{arith}
use Rattle.map_store.proofs.SlotRooms.{IsPlace, place_of_slots}
use Rattle.map_store.proofs.slots.Slots.offset_of.Goals as goal

pub overflow_mul-result : goal.overflow_mul-result
overflow_mul-result c = let p : IsPlace c.self.inside c.args.place = place_of_slots c.self.inside c.args.self.now c.args.place c.self.view_is c.self.invariant c.requires in omega arith

pub overflow_cast-result : goal.overflow_cast-result
overflow_cast-result c = let p : IsPlace c.self.inside c.args.place = place_of_slots c.self.inside c.args.self.now c.args.place c.self.view_is c.self.invariant c.requires in omega arith

pub returns-clause-within : goal.returns-clause-within
returns-clause-within c = let p : IsPlace c.self.inside c.args.place = place_of_slots c.self.inside c.args.self.now c.args.place c.self.view_is c.self.invariant c.requires in omega arith
