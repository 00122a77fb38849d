use Rattle.std.proofs.Common.{◌≡◌, ℕ, ◌-◌, ◌∙◌, List, ◌++◌, length, take, drop, slice_get, Some, arith, ap, sym, refl}
use Rattle.std.specs.Prelude.{pos, ◌+ℤ◌}
use Rattle.std.specs.Int.{w64, cast_unsigned, cast_signed}
use Rattle.std.proofs.lemmas.Int.{ints}
use Rattle.bpf_machine.specs.Next.{Goes}
use Rattle.bpf_machine.proofs.States.{left_some, parts_same}
use Rattle.bpf_machine.proofs.calls.leave.Goals as goal

pub returns : goal.returns
returns c = λ at maps.
    let next : cast_signed w64 (cast_unsigned w64 (cast_signed w64 (cast_unsigned w64 c.from.result) +ℤ pos 1)) ≡ pos c.in-Some.caller.call +ℤ pos 1 = omega (arith, ints) in
    let registers : List ℕ = c.args.scratch.now.registers in
    let kept : take 6 registers ++ (c.copy_from_slice.new.self ++ drop 5 (drop 6 registers)) ≡ take 6 registers ++ (c.in-Some.caller.kept ++ drop 5 (drop 6 registers)) = ap (λ (xs : List ℕ). take 6 registers ++ (xs ++ drop 5 (drop 6 registers))) c.copy_from_slice.ensures.after in
    let long : length c.args.scratch.now.registers ≡ 11 = omega arith in
    let last : slice_get c.args.scratch.now.callers.items (length c.args.scratch.now.callers.items - 1) ≡ Some c.in-Some.caller = sym c.in-Some.ensures.value in
    left_some at c.args.scratch.now.target registers c.args.scratch.now.callers.items c.pop.new.self.items c.args.scratch.now.stack.items maps c.args.frame.now c.in-Some.caller c.bounds.ensures long last c.in-Some.ensures.rest c.in-Some.ensures.len
    ∙ ap Goes (parts_same _ _ c.args.scratch.now.target _ _ c.pop.new.self.items c.pop.new.self.items c.args.scratch.now.stack.items c.args.scratch.now.stack.items maps c.args.frame.now (sym next) (sym kept) refl refl)
