use Rattle.std.proofs.Common.{sym, ◌∙◌}
use Rattle.map_store.proofs.Ends.{updated-new}
use Rattle.map_store.proofs.slots.Slots.insert.Goals as goal

pub returns-clause-done : goal.returns-clause-done
returns-clause-done c = λ _. c.fill.ensures ∙ sym (updated-new c.args.self.now c.args.key.now c.in-Some.place c.args.value.now c.requires.absent (sym c.least_empty.ensures.place ∙ c.in-Some.is))
