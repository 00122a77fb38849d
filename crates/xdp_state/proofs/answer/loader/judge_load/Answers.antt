use Rattle.std.proofs.Common.{◌≡◌, ◌<◌, true, nat_lt, Some, length, refl, arith}
use Rattle.std.specs.Prelude.{slice_get}
use Rattle.std.proofs.lemmas.Bool.Decides.{nat_tests}
use Rattle.std.proofs.lemmas.Option.{slice_get_read}
use Rattle.xdp_state.specs.Answer.{loaded_at, object_answer}
use Rattle.xdp_state.proofs.Judging.{found_at, loads}
use Rattle.xdp_state.proofs.answer.loader.judge_load.Goals as goal

pub returns : goal.returns
returns c =
    let library = c.args.library.now in
    let book = c.args.state.now in
    let words = c.args.words.now in
    let i = c.in-Some.interface in
    let lookup = rw c.as_slice-2.ensures at c.in-Some-get.ensures.lookup in
    let test : true ≡ nat_lt words.object (length library.objects) = lookup.0 in
    let below : words.object < length library.objects = grind (arith, nat_tests) in
    let here : slice_get library.objects words.object ≡ Some c.in-Some-get.object.now = slice_get_read library.objects (length library.objects) words.object c.in-Some-get.object.now refl below lookup.1 in
    let asked = rw c.as_slice-programs.ensures at c.in-Some-asked_place.ensures in
    let at = rw c.as_slice-programs.ensures at c.index-programs-place.is in
    rw (found_at library words.interface (λ i. object_answer library book i words (loaded_at library words.object)) i (rw c.as_slice.ensures at c.in-Some.ensures.place))
    (rw (loads library book i words c.in-Some-get.object.now c.in-Programs.programs c.in-Some-asked_place.place c.index-programs-place.result here c.in-Programs.is asked at)
    (rw c.load_change-change.ensures at c.judge_attach.ensures))
