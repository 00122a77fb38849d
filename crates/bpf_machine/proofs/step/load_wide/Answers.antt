use Rattle.std.proofs.Common.{rules, ◌≡◌, ◌+◌, ◌*◌, ◌^◌, Some, length, slice_get, arith, refl}
use Rattle.std.specs.Prelude.{pos, ◌+ℤ◌}
use Rattle.std.specs.Int.{w32, w64, cast_unsigned, cast_signed}
use Rattle.std.proofs.lemmas.Int.{ints}
use Rattle.std.proofs.lemmas.Option.{slice_get_read}
use Rattle.bpf_machine.proofs.States.{wide_loaded}
use Rattle.bpf_machine.proofs.step.load_wide.Goals as goal

pub returns : goal.returns
returns c = λ maps packet.
    let L = c.in-Some.ensures.lookup in
    let there : slice_get c.args.code.now (c.args.at + 1) ≡ Some c.in-Some.half.now = slice_get_read c.args.code.now (length c.args.code.now) (c.args.at + 1) c.in-Some.half.now refl L.3.0 L.1 in
    let value : c.from-low.result + c.from-high.result * 4294967296 ≡ cast_unsigned w32 c.args.insn.now.imm + 2 ^ 32 * cast_unsigned w32 c.in-Some.half.now.imm = search rules in
    let next : cast_signed w64 (cast_unsigned w64 (cast_signed w64 (cast_unsigned w64 c.from.result) +ℤ pos 2)) ≡ pos c.args.at +ℤ pos 2 = omega (arith, ints) in
    rw there (wide_loaded c.args.at c.args.scratch.now.target c.args.scratch.now.registers c.args.scratch.now.callers.items c.args.scratch.now.stack.items maps packet c.args.insn.now c.in-Some.half.now _ _ value next)
