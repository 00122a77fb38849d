use Rattle.std.proofs.Common.{rules, ℕ, true, [], ◌≡◌, Some, refl, ap, sym, ◌∙◌, ◌++◌}
use Rattle.std.specs.Prelude.{position}
use Rattle.std.proofs.lemmas.Bool.{OnTrue_at, OnTrue_from}
use Rattle.xio.specs.Room.{RoomState}
use Rattle.xio.specs.Shelf.{Setup, has_name, setup_of, no_setup, content_of}
use Rattle.xio.specs.Told.{set_named}
use Rattle.xio.proofs.ShelfLemmas.{part_of-changed, part_of-kept, part_of-reached}
use Rattle.xio.proofs.memory.shelf.Shelf.write.Goals as goal

pub returns-clause-content : goal.returns-clause-content
returns-clause-content c = OnTrue_from c.put.result _ (λ put.
    let files = c.args.self.now.files.items in
    let at : position (has_name c.args.name.now) files ≡ Some c.in-Some.index = search rules in
    let old : content_of files c.args.name.now ≡ c.index_mut-file.result.now.room.bytes =
    part_of-reached (λ file. file.room.bytes) [] files c.args.name.now _ _ at c.index_mut-file.ensures.value in
    let bytes : c.put.new.self.bytes ≡ content_of files c.args.name.now ++ c.args.piece.now =
    ap (λ (r : RoomState). r.bytes) (OnTrue_at put c.put.ensures.put) ∙ ap (λ xs. xs ++ c.args.piece.now) (sym old) in
    part_of-changed (λ file. file.room.bytes) [] files c.args.name.now _ c.index_mut-file.result.now _ at c.index_mut-file.ensures.value refl
    ∙ ap (λ xs. set_named (content_of files) c.args.name.now xs) bytes)

pub returns-clause-flushed : goal.returns-clause-flushed
returns-clause-flushed c = OnTrue_from c.put.result _ (λ _.
    part_of-kept (λ file. file.flushed) 0 _ c.args.name.now _ c.index_mut-file.result.now _ (search rules) c.index_mut-file.ensures.value refl refl)

pub returns-clause-same_setups : goal.returns-clause-same_setups
returns-clause-same_setups c =
    part_of-kept setup_of no_setup _ c.args.name.now _ c.index_mut-file.result.now _ (search rules) c.index_mut-file.ensures.value refl
    (ap (λ (size : ℕ). let setup : Setup = record { there = true; room = size; bad_place = c.index_mut-file.result.now.bad_place } in setup) c.put.ensures.same_size)
