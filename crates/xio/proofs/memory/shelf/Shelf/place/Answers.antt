use Rattle.std.proofs.Common.{rules, [], ◌≡◌, Some, None, refl}
use Rattle.std.specs.Prelude.{position}
use Rattle.xio.specs.Shelf.{has_name, setup_of, no_setup}
use Rattle.xio.proofs.ShelfLemmas.{part_of-set, part_of-push, name_same}
use Rattle.xio.proofs.memory.shelf.Shelf.place.Goals as goal

pub returns-in-Some-clause-content : goal.returns-in-Some-clause-content
returns-in-Some-clause-content c =
    let at : position (has_name c.args.file.name) c.args.self.now.files.items ≡ Some c.in-Some.index = search rules in
    part_of-set (λ file. file.room.bytes) [] _ c.args.file.name _ c.args.file at (name_same c.args.file.name)

pub returns-in-Some-clause-flushed : goal.returns-in-Some-clause-flushed
returns-in-Some-clause-flushed c =
    let at : position (has_name c.args.file.name) c.args.self.now.files.items ≡ Some c.in-Some.index = search rules in
    part_of-set (λ file. file.flushed) 0 _ c.args.file.name _ c.args.file at (name_same c.args.file.name)

pub returns-in-None-clause-content : goal.returns-in-None-clause-content
returns-in-None-clause-content c =
    let none : position (has_name c.args.file.name) c.args.self.now.files.items ≡ None = search rules in
    rw c.push_reserved.ensures.items (part_of-push (λ file. file.room.bytes) [] _ c.args.file.name c.args.file none refl)

pub returns-in-None-clause-flushed : goal.returns-in-None-clause-flushed
returns-in-None-clause-flushed c =
    let none : position (has_name c.args.file.name) c.args.self.now.files.items ≡ None = search rules in
    rw c.push_reserved.ensures.items (part_of-push (λ file. file.flushed) 0 _ c.args.file.name c.args.file none refl)

pub returns-in-Some-clause-setups : goal.returns-in-Some-clause-setups
returns-in-Some-clause-setups c =
    let at : position (has_name c.args.file.name) c.args.self.now.files.items ≡ Some c.in-Some.index = search rules in
    part_of-set setup_of no_setup _ c.args.file.name _ c.args.file at (name_same c.args.file.name)

pub returns-in-None-clause-setups : goal.returns-in-None-clause-setups
returns-in-None-clause-setups c =
    let none : position (has_name c.args.file.name) c.args.self.now.files.items ≡ None = search rules in
    rw c.push_reserved.ensures.items (part_of-push setup_of no_setup _ c.args.file.name c.args.file none refl)
