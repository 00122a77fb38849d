use Rattle.std.proofs.Common.{◌≡◌, Some, None, sym, ◌∙◌, arith}
use Rattle.std.specs.Prelude.{pos}
use Rattle.std.specs.Int.{w32, cast_signed, cast_unsigned}
use Rattle.std.proofs.lemmas.Int.{ints}
use Rattle.bpf_machine.specs.Helpers.{help, helper_of}
use Rattle.bpf_machine.specs.Machine.{state_of}
use Rattle.bpf_machine.specs.State.{State}
use Rattle.bpf_machine.proofs.HelperCalls.{help_fault}
use Rattle.bpf_machine.proofs.helpers.call_helper.Goals as goal

pub returns-in_default-ask-clause-after : goal.returns-in_default-ask-clause-after
returns-in_default-ask-clause-after c =
    let s : State = state_of (pos c.args.at) c.args.scratch.now c.args.store.now c.args.frame.now in
    let number : cast_signed w32 (cast_unsigned w32 c.args.number) ≡ c.args.number = omega (arith, ints) in
    let found : helper_of c.args.number ≡ Some c.in-Some.helper = sym (rw number at c.from_number.ensures) ∙ c.in-Some.is in
    let none : help c.args.env.now s c.in-Some.helper ≡ None = rw c.in_default-ask.is at (c.ask.ensures.after (pos c.args.at)) in
    help_fault c.args.env.now s (state_of (pos c.args.at) c.ask.new.scratch c.ask.new.store c.ask.new.frame) c.in-Some.helper (helper_of c.args.number) found none (c.ask.ensures.fault c.in_default-ask.is (pos c.args.at))
