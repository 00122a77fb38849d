use Rattle.std.proofs.Common.{◌∙◌, slice_index, sym}
use Rattle.std.specs.Prelude.{pos}
use Rattle.map_store.specs.Slots.{map_at}
use Rattle.bpf_machine.specs.Machine.{state_of}
use Rattle.bpf_machine.proofs.MapHelpers.{length-read, delete-unnamed, delete-no_key, delete-done}
use Rattle.bpf_machine.proofs.maps.delete.Goals as goal

pub returns-in_err-map-clause-after : goal.returns-in_err-map-clause-after
returns-in_err-map-clause-after c = λ next. rw c.from_residual.ensures (delete-unnamed c.args.env.now (state_of next c.args.scratch.now c.args.store.now c.args.frame.now) _ (sym c.map_named.ensures.named ∙ c.in_err-map.was))

pub returns-then-not-read_key-clause-after : goal.returns-then-not-read_key-clause-after
returns-then-not-read_key-clause-after c = λ next. delete-no_key c.args.env.now (state_of next c.args.scratch.now c.args.store.now c.args.frame.now) _ c.in_ok-map.map (sym c.map_named.ensures.named ∙ c.in_ok-map.was) (c.if-not-read_key.ensures.key next)

pub delete-end-requires-clause-key : goal.delete-end-requires-clause-key
delete-end-requires-clause-key c =
    rw c.deref.ensures.value (length-read c.args.env.now (state_of (pos 0) c.args.scratch.now c.args.store.now c.args.frame.now) (slice_index c.args.scratch.now.registers 2) (map_at c.args.store.now c.in_ok-map.map).key_size c.read_key.new.scratch.key.items (c.if-not-read_key.ensures.key (pos 0)))

pub returns-clause-after : goal.returns-clause-after
returns-clause-after c = λ next.
    delete-done c.args.env.now (state_of next c.args.scratch.now c.args.store.now c.args.frame.now) (state_of next c.read_key.new.scratch c.args.store.now c.args.frame.now) _ c.in_ok-map.map c.read_key.new.scratch.key.items c.delete-end.result c.delete-end.new.self c.delete_answer.result
    (sym c.map_named.ensures.named ∙ c.in_ok-map.was) (c.if-not-read_key.ensures.key next) (c.if-not-read_key.ensures.state next)
    (rw c.deref.ensures.value at c.delete-end.ensures.answer) (rw c.deref.ensures.value at c.delete-end.ensures.done) c.delete-end.ensures.refused c.delete_answer.ensures
