use Rattle.std.proofs.Common.{◌≡◌, true, sym, ◌∙◌}
use Rattle.map_store.specs.Slots.{is_array}
use Rattle.map_store.proofs.Start.{in_range, four_bytes}
use Rattle.map_store.proofs.buffers.first_keys.Goals as goal

pub array_keys-requires : goal.array_keys-requires
array_keys-requires c = (in_range c.args.spec.now c.requires.spec.rules).entries_most

pub returns-then-is_array-clause-size : goal.returns-then-is_array-clause-size
returns-then-is_array-clause-size c =
    let array : is_array c.args.spec.now.kind ≡ true = sym c.is_array.ensures ∙ c.if-is_array.true in
    rw (four_bytes c.args.spec.now.kind c.args.spec.now.key_size (in_range c.args.spec.now c.requires.spec.rules).key array) c.array_keys.ensures.size
