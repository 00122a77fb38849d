use Rattle.std.proofs.Common.{◌≡◌, Some, sym, ◌∙◌}
use Rattle.map_store.specs.Slots.{place_of}
use Rattle.map_store.proofs.Ends.{updated-there, found_key}
use Rattle.map_store.proofs.slots.Slots.update.Goals as goal

pub returns-clause-done : goal.returns-clause-done
returns-clause-done c = λ _.
    let there : place_of c.args.key.now c.args.self.now.slots ≡ Some c.in-Some.place = sym c.place_of.ensures.place ∙ c.in-Some.is in
    c.set_value.ensures.entry c.args.key.now (found_key c.args.key.now c.args.self.now.slots c.in-Some.place there) ∙ sym (updated-there c.args.self.now c.args.key.now c.in-Some.place c.args.value.now there)
