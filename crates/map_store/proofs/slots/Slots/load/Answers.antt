use Rattle.std.proofs.Common.{◌≡◌, true, false, sym, ◌∙◌, refl}
use Rattle.flat_memory.specs.Numbers.{size_of}
use Rattle.map_store.specs.Values.{load_in, can_read_in}
use Rattle.map_store.proofs.Access.{IsRead, read_facts, load_is}
use Rattle.map_store.proofs.slots.Slots.load.Goals as goal

pub returns-then-not-has_bytes-clause-number : goal.returns-then-not-has_bytes-clause-number
unfolding load_in
returns-then-not-has_bytes-clause-number c =
    let can : can_read_in c.args.self.now c.args.offset (size_of c.args.size) ≡ false = sym (rw c.bytes_of.ensures at c.has_bytes.ensures.answer) ∙ c.if-not-has_bytes.true in
    rw can refl

pub number-requires : goal.number-requires
number-requires c =
    let can : can_read_in c.args.self.now c.args.offset (size_of c.args.size) ≡ true = sym (rw c.bytes_of.ensures at c.has_bytes.ensures.answer) ∙ c.if-not-has_bytes.false in
    let facts : IsRead c.self.inside c.args.offset (size_of c.args.size) = read_facts c.self.inside c.args.offset (size_of c.args.size) c.self.invariant (rw (← c.self.view_is) at can) in
    rw c.deref.ensures.value facts.within

pub returns-clause-number : goal.returns-clause-number
returns-clause-number c =
    let can : can_read_in c.args.self.now c.args.offset (size_of c.args.size) ≡ true = sym (rw c.bytes_of.ensures at c.has_bytes.ensures.answer) ∙ c.if-not-has_bytes.false in
    rw (c.number.ensures, c.deref.ensures.value) (load_is c.self.inside c.args.self.now c.args.offset c.args.size c.self.view_is c.self.invariant can)
