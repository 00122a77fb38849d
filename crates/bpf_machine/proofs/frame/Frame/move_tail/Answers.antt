use Rattle.std.proofs.Common.{◌≡◌, ℕ, ◌+◌, ◌-◌, ◌≤◌, List, length, replicate, refl, ap, sym, ◌∙◌, arith}
use Rattle.std.specs.Prelude.{ℤ, pos, ◌+ℤ◌, ◌≤ℤ◌, ◌&&◌, true, int_le, unsigned_abs}
use Rattle.std.specs.Int.{w64, cast_signed, cast_unsigned}
use Rattle.std.specs.Vec.{with_items}
use Rattle.std.proofs.lemmas.Int.{ints}
use Rattle.std.proofs.lemmas.List.{with_items_is, length-replicate}
use Rattle.flat_memory.specs.Numbers.{with_bytes}
use Rattle.flat_memory.proofs.Bytes.{length-with_bytes}
use Rattle.bpf_machine.specs.Machine.{with_end}
use Rattle.bpf_machine.proofs.Adjusting.{end_within}
use Rattle.bpf_machine.proofs.frame.Frame.move_tail.Goals as goal

pub returns-clause-moved : goal.returns-clause-moved
unfolding with_end
returns-clause-moved c =
    let buffer : List ℕ = c.self.inside.buffer.items in
    let x : ℤ = pos c.self.inside.end +ℤ c.args.delta in
    let moved : cast_signed w64 (cast_unsigned w64 (cast_signed w64 c.self.inside.end +ℤ cast_signed w64 (cast_unsigned w64 c.from.result))) ≡ x = omega (arith, ints) in
    let test : (int_le (pos (c.self.inside.start + 14)) x && int_le x (pos (length buffer))) ≡ true = grind (arith, ints) in
    let zeros : List ℕ = replicate (unsigned_abs x - c.self.inside.end) 0 in
    let cleared : c.clear.new.bytes ≡ with_bytes buffer c.self.inside.end zeros = rw (moved, c.deref_mut.ensures.value) at c.clear.ensures in
    let above : pos 0 ≤ℤ x = grind (arith, ints) in
    let below : x ≤ℤ pos (length buffer) = grind (arith, ints) in
    let within : unsigned_abs x ≤ length buffer = end_within x (length buffer) above below in
    let inside : c.self.inside.end ≤ length buffer = omega arith in
    let many : length zeros ≡ unsigned_abs x - c.self.inside.end = length-replicate (unsigned_abs x - c.self.inside.end) 0 in
    let fits : c.self.inside.end + length zeros ≤ length buffer = omega arith in
    let long : length c.clear.new.bytes ≡ c.self.inside.buffer.len = ap length cleared ∙ length-with_bytes buffer c.self.inside.end zeros fits ∙ sym c.self.inside.buffer.ok.0 in
    let items : (with_items c.self.inside.buffer c.clear.new.bytes).items ≡ with_bytes buffer c.self.inside.end zeros = with_items_is c.self.inside.buffer c.clear.new.bytes long ∙ cleared in
    rw (moved, items, ← c.self.view_is, test) refl
