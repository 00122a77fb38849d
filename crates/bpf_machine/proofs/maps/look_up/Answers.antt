use Rattle.std.proofs.Common.{◌∙◌, slice_index, sym, refl}
use Rattle.std.specs.Prelude.{pos}
use Rattle.map_store.specs.Slots.{map_at}
use Rattle.bpf_machine.specs.Machine.{state_of}
use Rattle.bpf_machine.proofs.MapHelpers.{length-read, lookup-unnamed, lookup-unread, looked_up}
use Rattle.bpf_machine.proofs.maps.look_up.Goals as goal

pub returns-in_err-map : goal.returns-in_err-map
returns-in_err-map c = λ next. rw c.from_residual.ensures (lookup-unnamed c.args.env.now (state_of next c.args.scratch.now c.args.store.now c.args.frame.now) _ (sym c.map_named.ensures.named ∙ c.in_err-map.was))

pub returns-in_err-key : goal.returns-in_err-key
returns-in_err-key c = λ next.
    rw c.from_residual-in_err-key.ensures (lookup-unread c.args.env.now (state_of next c.args.scratch.now c.args.store.now c.args.frame.now) _ c.in_ok-map.map (sym c.map_named.ensures.named ∙ c.in_ok-map.was) (c.in_err-key.ensures c.args.env.now next c.frame_context-context.ensures))

pub lookup-requires-clause-key : goal.lookup-requires-clause-key
lookup-requires-clause-key c =
    length-read c.args.env.now (state_of (pos 0) c.args.scratch.now c.args.store.now c.args.frame.now) (slice_index c.args.scratch.now.registers 2) (map_at c.args.store.now c.in_ok-map.map).key_size c.in_ok-key.key.now (c.in_ok-key.ensures c.args.env.now (pos 0) c.frame_context-context.ensures)

pub returns-in-Some : goal.returns-in-Some
returns-in-Some c = λ next.
    looked_up c.args.env.now (state_of next c.args.scratch.now c.args.store.now c.args.frame.now) _ c.in_ok-map.map c.in_ok-key.key.now c.from.result (sym c.map_named.ensures.named ∙ c.in_ok-map.was) (c.in_ok-key.ensures c.args.env.now next c.frame_context-context.ensures) (c.from.ensures ∙ rw (← c.in-Some.ensures) refl)

pub returns-in-None : goal.returns-in-None
returns-in-None c = λ next.
    looked_up c.args.env.now (state_of next c.args.scratch.now c.args.store.now c.args.frame.now) _ c.in_ok-map.map c.in_ok-key.key.now 0 (sym c.map_named.ensures.named ∙ c.in_ok-map.was) (c.in_ok-key.ensures c.args.env.now next c.frame_context-context.ensures) (rw (← c.in-None.ensures) refl)
