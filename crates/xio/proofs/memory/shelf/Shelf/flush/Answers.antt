use Rattle.std.proofs.Common.{rules, [], ◌≡◌, Some, None, refl, ap, length, sym, ◌∙◌}
use Rattle.std.specs.Prelude.{position}
use Rattle.xio.specs.Shelf.{has_name, setup_of, no_setup, flushed_of, content_of}
use Rattle.xio.specs.Told.{set_named}
use Rattle.xio.proofs.ShelfLemmas.{part_of-changed, part_of-kept, part_of-reached, part_of-missing, set_named-own}
use Rattle.xio.proofs.memory.shelf.Shelf.flush.Goals as goal

pub returns-in-Some-clause-content : goal.returns-in-Some-clause-content
returns-in-Some-clause-content c =
    part_of-kept (λ file. file.room.bytes) [] _ c.args.name.now _ c.index_mut-file.result.now _ (search rules) c.index_mut-file.ensures.value refl refl

pub returns-in-Some-clause-flushed : goal.returns-in-Some-clause-flushed
returns-in-Some-clause-flushed c =
    let files = c.args.self.now.files.items in
    let at : position (has_name c.args.name.now) files ≡ Some c.in-Some.index = search rules in
    let bytes : c.bytes.result.now ≡ content_of files c.args.name.now =
    c.bytes.ensures ∙ sym (part_of-reached (λ file. file.room.bytes) [] files c.args.name.now _ _ at c.index_mut-file.ensures.value) in
    part_of-changed (λ file. file.flushed) 0 files c.args.name.now _ c.index_mut-file.result.now _ at c.index_mut-file.ensures.value refl
    ∙ ap (λ n. set_named (flushed_of files) c.args.name.now n) (ap length bytes)

pub returns-in_default-clause-flushed : goal.returns-in_default-clause-flushed
returns-in_default-clause-flushed c =
    let files = c.args.self.now.files.items in
    let none : position (has_name c.args.name.now) files ≡ None = search rules in
    set_named-own (flushed_of files) c.args.name.now _
    (part_of-missing (λ file. file.flushed) 0 files c.args.name.now none ∙ sym (ap length (part_of-missing (λ file. file.room.bytes) [] files c.args.name.now none)))

pub returns-in-Some-clause-same_setups : goal.returns-in-Some-clause-same_setups
returns-in-Some-clause-same_setups c =
    part_of-kept setup_of no_setup _ c.args.name.now _ c.index_mut-file.result.now _ (search rules) c.index_mut-file.ensures.value refl refl
