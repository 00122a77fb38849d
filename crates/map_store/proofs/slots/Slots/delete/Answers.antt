use Rattle.std.proofs.Common.{sym, ◌∙◌}
use Rattle.map_store.proofs.Ends.{deleted-there}
use Rattle.map_store.proofs.slots.Slots.delete.Goals as goal

pub returns-clause-done : goal.returns-clause-done
returns-clause-done c = λ _. c.empty.ensures ∙ sym (deleted-there c.args.self.now c.args.key.now c.in-Some.place (sym c.place_of.ensures.place ∙ c.in-Some.is))
