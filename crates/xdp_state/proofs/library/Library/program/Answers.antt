use Rattle.std.proofs.Common.{◌<◌, ◌≤◌, length, ap, refl, sym, ◌∙◌, arith}
use Rattle.std.proofs.lemmas.Option.{slice_get_read}
use Rattle.xdp_state.specs.Library.{programs_in}
use Rattle.xdp_state.proofs.Programs.{program-behind, program-here}
use Rattle.xdp_state.proofs.library.Library.program.Goals as goal

pub returns-then-place-programs : goal.returns-then-place-programs
returns-then-place-programs c =
    let items = c.as_slice-object-items.result.now in
    let object = c.object-item.result in
    let programs = programs_in object.loaded in
    let within : c.loop-object.place < length programs = omega (arith, c.if-place-programs.true, ap length c.programs-programs.ensures) in
    let read = slice_get_read programs (length programs) c.loop-object.place c.index-programs-place.result refl within (rw c.programs-programs.ensures at c.index-programs-place.is) in
    sym (c.loop-object.invariant ∙ program-here items c.loop-object.object-index object c.loop-object.place (omega arith) c.object-item.is within ∙ read)

pub loop-object-preserved : goal.loop-object-preserved
loop-object-preserved c =
    let items = c.as_slice-object-items.result.now in
    let object = c.object-item.result in
    let past : length (programs_in object.loaded) ≤ c.loop-object.place = omega (arith, c.if-place-programs.false, ap length c.programs-programs.ensures) in
    rw c.programs-programs.ensures (c.loop-object.invariant ∙ program-behind items c.loop-object.object-index object c.loop-object.place (omega arith) c.object-item.is past)
