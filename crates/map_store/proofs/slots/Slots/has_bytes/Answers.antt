use Rattle.std.proofs.Common.{◌≡◌, ◌/◌, ◌<◌, ◌≤◌, true, false, length, sym, ◌∙◌}
use Rattle.map_store.specs.Occupied.{is_taken}
use Rattle.map_store.proofs.Access.{spot, can_read-count, can_read-behind, can_read-empty, can_read-past}
use Rattle.map_store.proofs.slots.Slots.has_bytes.Goals as goal

pub returns-then-place-len-clause-answer : goal.returns-then-place-len-clause-answer
returns-then-place-len-clause-answer c =
    let past : length c.self.inside.taken ≤ c.args.offset / c.self.inside.stride = rw c.len.ensures at c.if-place-len.true in
    rw (← c.self.view_is) (sym (can_read-past c.self.inside c.args.offset c.args.count c.self.invariant past))

pub returns-then-not-is_taken-clause-answer : goal.returns-then-not-is_taken-clause-answer
returns-then-not-is_taken-clause-answer c =
    let within : c.args.offset / c.self.inside.stride < length c.self.inside.taken = rw c.len.ensures at c.if-place-len.false in
    let read : is_taken c.self.inside.taken (c.args.offset / c.self.inside.stride) ≡ false = sym c.is_taken.ensures ∙ c.if-not-is_taken.true in
    rw (← c.self.view_is) (sym (can_read-empty c.self.inside c.args.offset _ _ c.args.count c.self.invariant (spot c.self.inside c.args.offset c.self.invariant within) read))

pub returns-then-byte-self-clause-answer : goal.returns-then-byte-self-clause-answer
returns-then-byte-self-clause-answer c =
    let within : c.args.offset / c.self.inside.stride < length c.self.inside.taken = rw c.len.ensures at c.if-place-len.false in
    let read : is_taken c.self.inside.taken (c.args.offset / c.self.inside.stride) ≡ true = sym c.is_taken.ensures ∙ c.if-not-is_taken.false in
    rw (← c.self.view_is) (sym (can_read-count c.self.inside c.args.offset _ _ c.args.count c.self.invariant (spot c.self.inside c.args.offset c.self.invariant within) read c.if-byte-self.true))

pub returns-else-byte-self-clause-answer : goal.returns-else-byte-self-clause-answer
returns-else-byte-self-clause-answer c =
    let within : c.args.offset / c.self.inside.stride < length c.self.inside.taken = rw c.len.ensures at c.if-place-len.false in
    let read : is_taken c.self.inside.taken (c.args.offset / c.self.inside.stride) ≡ true = sym c.is_taken.ensures ∙ c.if-not-is_taken.false in
    rw (← c.self.view_is) (sym (can_read-behind c.self.inside c.args.offset _ _ c.args.count c.self.invariant (spot c.self.inside c.args.offset c.self.invariant within) read c.if-byte-self.false))
