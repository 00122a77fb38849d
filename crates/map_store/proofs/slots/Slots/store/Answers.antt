use Rattle.std.proofs.Common.{◌≡◌, true, false, length, sym, ◌∙◌, refl}
use Rattle.flat_memory.specs.Numbers.{size_of, stored}
use Rattle.flat_memory.proofs.Bytes.{length-stored}
use Rattle.map_store.specs.Values.{can_read_in}
use Rattle.std.specs.Vec.{with_items}
use Rattle.map_store.specs.declared.slots.Slots.TheInside.{Inside}
use Rattle.map_store.proofs.Access.{IsRead, read_facts, written_at, write-shared, write-own}
use Rattle.map_store.proofs.Changes.{bytes_after}
use Rattle.map_store.proofs.ValueMemory.{values_after}
use Rattle.map_store.proofs.Shapes.{same-shape}
use Rattle.map_store.proofs.slots.Slots.store.Goals as goal

pub returns-then-is_shared-clause-answer : goal.returns-then-is_shared-clause-answer
returns-then-is_shared-clause-answer c = sym (write-shared c.args.self.now c.args.offset (size_of c.args.size) (sym c.is_shared.ensures ∙ c.if-is_shared.true))

pub returns-then-not-has_bytes-clause-answer : goal.returns-then-not-has_bytes-clause-answer
returns-then-not-has_bytes-clause-answer c =
    let can : can_read_in c.args.self.now c.args.offset (size_of c.args.size) ≡ false = sym (rw c.bytes_of.ensures at c.has_bytes.ensures.answer) ∙ c.if-not-has_bytes.true in
    sym (write-own c.args.self.now c.args.offset (size_of c.args.size) (sym c.is_shared.ensures ∙ c.if-is_shared.false) ∙ can)

pub put_number-requires : goal.put_number-requires
put_number-requires c =
    let can : can_read_in c.args.self.now c.args.offset (size_of c.args.size) ≡ true = sym (rw c.bytes_of.ensures at c.has_bytes.ensures.answer) ∙ c.if-not-has_bytes.false in
    let facts : IsRead c.self.inside c.args.offset (size_of c.args.size) = read_facts c.self.inside c.args.offset (size_of c.args.size) c.self.invariant (rw (← c.self.view_is) at can) in
    rw c.deref_mut.ensures.value facts.within

pub returns-clause-answer : goal.returns-clause-answer
returns-clause-answer c =
    let can : can_read_in c.args.self.now c.args.offset (size_of c.args.size) ≡ true = sym (rw c.bytes_of.ensures at c.has_bytes.ensures.answer) ∙ c.if-not-has_bytes.false in
    sym (write-own c.args.self.now c.args.offset (size_of c.args.size) (sym c.is_shared.ensures ∙ c.if-is_shared.false) ∙ can)

pub returns-clause-done : goal.returns-clause-done
returns-clause-done c = λ _.
    let can : can_read_in c.args.self.now c.args.offset (size_of c.args.size) ≡ true = sym (rw c.bytes_of.ensures at c.has_bytes.ensures.answer) ∙ c.if-not-has_bytes.false in
    let facts : IsRead c.self.inside c.args.offset (size_of c.args.size) = read_facts c.self.inside c.args.offset (size_of c.args.size) c.self.invariant (rw (← c.self.view_is) at can) in
    let size : length (stored c.args.size c.args.value) ≡ size_of c.args.size = length-stored c.args.size c.args.value in
    rw (← c.self.view_is) (written_at c.self.inside c.args.offset _ _ (stored c.args.size c.args.value) _ c.self.invariant facts.spot
    (bytes_after c.self.inside.values c.deref_mut.result.now c.put_number.new.bytes (stored c.args.size c.args.value) c.args.offset c.deref_mut.ensures.value c.put_number.ensures (rw size facts.within))
    (rw size facts.fits))

pub returns-clause-memory : goal.returns-clause-memory
returns-clause-memory c = λ _.
    let can : can_read_in c.args.self.now c.args.offset (size_of c.args.size) ≡ true = sym (rw c.bytes_of.ensures at c.has_bytes.ensures.answer) ∙ c.if-not-has_bytes.false in
    let facts : IsRead c.self.inside c.args.offset (size_of c.args.size) = read_facts c.self.inside c.args.offset (size_of c.args.size) c.self.invariant (rw (← c.self.view_is) at can) in
    let size : length (stored c.args.size c.args.value) ≡ size_of c.args.size = length-stored c.args.size c.args.value in
    let after : Inside = record c.self.inside { values = with_items c.self.inside.values c.put_number.new.bytes } in
    rw (← c.self.view_is) (values_after c.self.inside after c.args.offset (stored c.args.size c.args.value) c.self.invariant (rw size facts) refl refl refl refl refl refl refl
    (bytes_after c.self.inside.values c.deref_mut.result.now c.put_number.new.bytes (stored c.args.size c.args.value) c.args.offset c.deref_mut.ensures.value c.put_number.ensures (rw size facts.within)))

pub returns-clause-shape : goal.returns-clause-shape
returns-clause-shape c = same-shape c.self.inside (with_items c.self.inside.values c.put_number.new.bytes) c.args.self.now c.self.view_is
