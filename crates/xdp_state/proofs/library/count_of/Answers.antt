use Rattle.std.proofs.Common.{◌≡◌, Some, length, length-append, take, ap, refl, add-one, arith}
use Rattle.std.specs.Prelude.{slice_get}
use Rattle.std.proofs.lemmas.Option.{slice_get_read}
use Rattle.xdp_state.specs.Library.{programs_in, programs_of}
use Rattle.xdp_state.proofs.Programs.{few_taken, programs_of-take, with_next}
use Rattle.xdp_state.proofs.library.count_of.Goals as goal

pub loop-object-preserved : goal.loop-object-preserved
loop-object-preserved c =
    let items = take c.args.first c.args.objects.now in
    let i = c.loop-object.object-index in
    let object = c.object-item.result in
    let there : slice_get items i ≡ Some object = slice_get_read items (length items) i object refl (omega arith) c.object-item.is in
    let more = ap length (programs_of-take items i object there) in
    let both = length-append (programs_of (take i items)) (programs_in object.loaded) in
    rw add-one (omega (arith, more, both, c.loop-object.invariant, ap length c.programs.ensures))

pub overflow_add-count : goal.overflow_add-count
overflow_add-count c =
    let objects = c.args.objects.now in
    let items = take c.args.first objects in
    let i = c.loop-object.object-index in
    let object = c.object-item.result in
    let there : slice_get items i ≡ Some object = slice_get_read items (length items) i object refl (omega arith) c.object-item.is in
    let more = with_next items i object there in
    let all = few_taken objects c.args.first in
    let few = c.requires.few in
    omega (arith, more, all, few, c.loop-object.invariant, ap length c.programs.ensures)
