use Rattle.std.proofs.Common.{arith}
use Rattle.std.proofs.lemmas.Option.{slice_get_within}
use Rattle.xdp_state.proofs.Programs.{number_below}
use Rattle.xdp_state.proofs.answer.loader.number_of.Goals as goal

pub count_of-before-requires-clause-objects : goal.count_of-before-requires-clause-objects
count_of-before-requires-clause-objects c =
    let within = slice_get_within c.args.library.now.objects c.args.object c.requires.place.0 c.requires.place.1 in
    rw c.as_slice.ensures (omega (arith, within))

pub returns : goal.returns
returns c =
    let below = number_below c.args.library.now.objects c.args.object c.args.place c.requires.place.0 c.requires.place.1 c.requires.place.2 in
    grind (arith, below, c.requires.sound.count, c.count_of-before.ensures)

pub overflow_add-result : goal.overflow_add-result
overflow_add-result c =
    let below = number_below c.args.library.now.objects c.args.object c.args.place c.requires.place.0 c.requires.place.1 c.requires.place.2 in
    let count = rw c.as_slice.ensures at c.count_of-before.ensures in
    omega (arith, below, c.requires.sound.count, count)

pub overflow_cast-result : goal.overflow_cast-result
overflow_cast-result c =
    let below = number_below c.args.library.now.objects c.args.object c.args.place c.requires.place.0 c.requires.place.1 c.requires.place.2 in
    let count = rw c.as_slice.ensures at c.count_of-before.ensures in
    omega (arith, below, c.requires.sound.count, count)
