use Rattle.std.proofs.Common.{◌≡◌, ◌*◌, ◌≤◌, length, replicate, sym, ◌∙◌, arith}
use Rattle.std.specs.Vec.{with_items}
use Rattle.flat_memory.specs.Numbers.{with_bytes}
use Rattle.map_store.proofs.Changes.{bytes_after}
use Rattle.map_store.proofs.Start.{initial_fits, first_parts}
use Rattle.map_store.proofs.buffers.first_values.Goals as goal

pub copy_at-requires : goal.copy_at-requires
copy_at-requires c =
    let long : length c.in_ok-values.values.items ≡ c.args.spec.now.max_entries * c.args.stride = sym c.in_ok-values.values.ok.0 ∙ c.in_ok-values.ensures.len in
    let fits : length c.args.spec.now.initial ≤ c.args.spec.now.max_entries * c.args.stride = rw c.requires.stride (initial_fits c.args.spec.now c.requires.spec) in
    rw (c.deref_mut.ensures.value, c.as_slice-initial.ensures) (omega arith)

pub returns-clause-values : goal.returns-clause-values
returns-clause-values c =
    let zeros : c.in_ok-values.values.items ≡ replicate (c.args.spec.now.max_entries * c.args.stride) 0 = c.in_ok-values.ensures.items_if_clones_equal (λ y e. e) in
    let long : length c.in_ok-values.values.items ≡ c.args.spec.now.max_entries * c.args.stride = sym c.in_ok-values.values.ok.0 ∙ c.in_ok-values.ensures.len in
    let fits : length c.args.spec.now.initial ≤ c.args.spec.now.max_entries * c.args.stride = rw c.requires.stride (initial_fits c.args.spec.now c.requires.spec) in
    let wrote : c.copy_at.new.bytes ≡ with_bytes c.deref_mut.result.now 0 c.args.spec.now.initial = rw c.as_slice-initial.ensures at c.copy_at.ensures in
    let after : (with_items c.in_ok-values.values c.copy_at.new.bytes).items ≡ with_bytes c.in_ok-values.values.items 0 c.args.spec.now.initial =
    bytes_after c.in_ok-values.values c.deref_mut.result.now c.copy_at.new.bytes c.args.spec.now.initial 0 c.deref_mut.ensures.value wrote (omega arith) in
    λ place below. rw (after, zeros, c.requires.stride) (first_parts c.args.spec.now place c.requires.spec below)
