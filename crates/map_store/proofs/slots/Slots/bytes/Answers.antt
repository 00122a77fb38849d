use Rattle.std.proofs.Common.{◌≡◌, ◌+◌, ◌-◌, true, false, sym, ◌∙◌, refl, arith}
use Rattle.map_store.specs.Values.{bytes_in, can_read_in}
use Rattle.map_store.proofs.Access.{IsRead, read_facts, bytes_are}
use Rattle.map_store.proofs.slots.Slots.bytes.Goals as goal

pub returns-then-not-has_bytes-clause-bytes : goal.returns-then-not-has_bytes-clause-bytes
unfolding bytes_in
returns-then-not-has_bytes-clause-bytes c =
    let can : can_read_in c.args.self.now c.args.offset c.args.count ≡ false = sym c.has_bytes.ensures.answer ∙ c.if-not-has_bytes.true in
    rw can refl

pub slice_bounds-result-end : goal.slice_bounds-result-end
slice_bounds-result-end c =
    let can : can_read_in c.args.self.now c.args.offset c.args.count ≡ true = sym c.has_bytes.ensures.answer ∙ c.if-not-has_bytes.false in
    let facts : IsRead c.self.inside c.args.offset c.args.count = read_facts c.self.inside c.args.offset c.args.count c.self.invariant (rw (← c.self.view_is) at can) in
    rw c.deref.ensures.value facts.within

pub returns-clause-bytes : goal.returns-clause-bytes
returns-clause-bytes c =
    let can : can_read_in c.args.self.now c.args.offset c.args.count ≡ true = sym c.has_bytes.ensures.answer ∙ c.if-not-has_bytes.false in
    let size : c.args.offset + c.args.count - c.args.offset ≡ c.args.count = omega arith in
    rw (size, c.deref.ensures.value) (bytes_are c.self.inside c.args.self.now c.args.offset c.args.count c.self.view_is c.self.invariant can)
