use Rattle.std.proofs.Common.{◌≡◌, ◌∙◌, slice_index, sym}
use Rattle.std.specs.Prelude.{pos}
use Rattle.map_store.specs.Slots.{map_at}
use Rattle.bpf_machine.specs.Machine.{state_of}
use Rattle.bpf_machine.specs.State.{State}
use Rattle.bpf_machine.proofs.MapHelpers.{length-read, update-unnamed, update-no_key, update-no_value, update-done}
use Rattle.bpf_machine.proofs.maps.update.Goals as goal

pub returns-in_err-map-clause-after : goal.returns-in_err-map-clause-after
returns-in_err-map-clause-after c = λ next. rw c.from_residual.ensures (update-unnamed c.args.env.now (state_of next c.args.scratch.now c.args.store.now c.args.frame.now) _ (sym c.map_named.ensures.named ∙ c.in_err-map.was))

pub returns-then-not-read_key-clause-after : goal.returns-then-not-read_key-clause-after
returns-then-not-read_key-clause-after c = λ next. update-no_key c.args.env.now (state_of next c.args.scratch.now c.args.store.now c.args.frame.now) _ c.in_ok-map.map (sym c.map_named.ensures.named ∙ c.in_ok-map.was) (c.if-not-read_key.ensures.key next)

pub returns-then-not-read_value-clause-after : goal.returns-then-not-read_value-clause-after
returns-then-not-read_value-clause-after c = λ next.
    update-no_value c.args.env.now (state_of next c.args.scratch.now c.args.store.now c.args.frame.now) (state_of next c.read_key.new.scratch c.args.store.now c.args.frame.now) _ c.in_ok-map.map c.read_key.new.scratch.key.items (sym c.map_named.ensures.named ∙ c.in_ok-map.was) (c.if-not-read_key.ensures.key next) (c.if-not-read_key.ensures.state next) (c.if-not-read_value.ensures.value next)

pub returns-then-not-read_value-clause-fault : goal.returns-then-not-read_value-clause-fault
returns-then-not-read_value-clause-fault c = λ fault next. c.if-not-read_value.ensures.state next ∙ c.if-not-read_key.ensures.state next

pub update-end-requires-clause-key : goal.update-end-requires-clause-key
update-end-requires-clause-key c =
    rw (c.deref.ensures.value, c.if-not-read_value.ensures.key) (length-read c.args.env.now (state_of (pos 0) c.args.scratch.now c.args.store.now c.args.frame.now) (slice_index c.args.scratch.now.registers 2) (map_at c.args.store.now c.in_ok-map.map).key_size c.read_key.new.scratch.key.items (c.if-not-read_key.ensures.key (pos 0)))

pub update-end-requires-clause-value : goal.update-end-requires-clause-value
update-end-requires-clause-value c =
    rw c.deref-2.ensures.value (length-read c.args.env.now (state_of (pos 0) c.read_key.new.scratch c.args.store.now c.args.frame.now) (slice_index c.read_key.new.scratch.registers 3) (map_at c.args.store.now c.in_ok-map.map).value_size c.read_value.new.scratch.value.items (c.if-not-read_value.ensures.value (pos 0)))

pub returns-clause-after : goal.returns-clause-after
returns-clause-after c = λ next.
    let before : State = state_of next c.args.scratch.now c.args.store.now c.args.frame.now in
    let with_key : State = state_of next c.read_key.new.scratch c.args.store.now c.args.frame.now in
    let with_both : State = state_of next c.read_value.new.scratch c.args.store.now c.args.frame.now in
    let same : c.deref.result.now ≡ c.read_key.new.scratch.key.items = c.deref.ensures.value ∙ c.if-not-read_value.ensures.key in
    update-done c.args.env.now before with_key with_both _ c.in_ok-map.map c.read_key.new.scratch.key.items c.read_value.new.scratch.value.items c.update-end.result c.update-end.new.self c.update_answer.result
    (sym c.map_named.ensures.named ∙ c.in_ok-map.was) (c.if-not-read_key.ensures.key next) (c.if-not-read_key.ensures.state next) (c.if-not-read_value.ensures.value next) (c.if-not-read_value.ensures.state next)
    (rw same at c.update-end.ensures.answer) (rw (same, c.deref-2.ensures.value) at c.update-end.ensures.done) c.update-end.ensures.refused c.update_answer.ensures
