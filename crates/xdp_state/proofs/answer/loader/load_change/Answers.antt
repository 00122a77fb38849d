use Rattle.std.proofs.Common.{◌≡◌, ◌<◌, ℕ, List, true, length, sym, subst, ◌∙◌}
use Rattle.std.proofs.lemmas.Option.{slice_get_within}
use Rattle.xdp_state.specs.Library.{all_names, is_among, number_of, programs_in}
use Rattle.xdp_state.proofs.Lesser.{program-known}
use Rattle.xdp_state.proofs.Programs.{program-numbered}
use Rattle.xdp_state.proofs.answer.loader.load_change.Goals as goal

pub number_of-requires-clause-place : goal.number_of-requires-clause-place
number_of-requires-clause-place c =
    let row = c.requires.program.0 in
    (row, c.requires.program.1, slice_get_within (programs_in row.loaded) c.args.place c.args.program.now c.requires.program.2)

pub rank-requires-clause-known : goal.rank-requires-clause-known
rank-requires-clause-known c =
    let library = c.args.library.now in
    let object = c.args.words.now.object in
    let row = c.requires.program.0 in
    let within : c.args.place < length (programs_in row.loaded) = slice_get_within (programs_in row.loaded) c.args.place c.args.program.now c.requires.program.2 in
    subst (λ (name : List ℕ). is_among name (all_names library) ≡ true) (sym c.as_slice.ensures)
    (program-known library (number_of library object c.args.place) c.args.program.now
    (program-numbered library.objects object c.args.place row c.requires.program.1 within ∙ c.requires.program.2))
