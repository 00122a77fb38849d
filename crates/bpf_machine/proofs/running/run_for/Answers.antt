use Rattle.std.proofs.Common.{◌≡◌, ◌∙◌, List, arith, ap, refl}
use Rattle.std.specs.Prelude.{pos}
use Rattle.std.specs.Int.{w64, cast_unsigned, cast_signed}
use Rattle.std.proofs.lemmas.Int.{ints}
use Rattle.bpf_machine.specs.declared.scratch.Scratch.{Scratch}
use Rattle.bpf_machine.specs.Machine.{state_of}
use Rattle.map_store.specs.Slots.{Map}
use Rattle.bpf_machine.specs.State.{State, Packet}
use Rattle.bpf_machine.proofs.Runs.{reaches_none, reaches_more, spent_in_none, spent_in_next, ends_ended, ends_faulted, ends_nowhere, ends_spent}
use Rattle.bpf_machine.proofs.running.run_for.Goals as goal

pub loop-used-init : goal.loop-used-init
loop-used-init c =
    let s : State = state_of (pos 0) c.args.scratch.now c.args.store.now c.args.frame.now in
    record { reached = reaches_none c.args.code.now c.args.env.now s; only = spent_in_none c.args.code.now c.args.env.now s; same = refl }

pub loop-used-preserved : goal.loop-used-preserved
loop-used-preserved c =
    let s : State = state_of (pos 0) c.args.scratch.now c.args.store.now c.args.frame.now in
    let t : State = state_of (cast_signed w64 c.loop-used.next-bits) c.loop-used.scratch c.loop-used.store c.loop-used.frame in
    let u : State = state_of c.in-Some-Next.slot c.step.new.scratch c.step.new.store c.step.new.frame in
    let steps = rw c.in-Some-Next.field-0-is at (c.in-Some-Next.ensures.some) in
    let only = rw c.in-Some-Next.field-0-is at (c.in-Some-Next.ensures.only) in
    let same : cast_signed w64 (cast_unsigned w64 c.in-Some-Next.slot) ≡ c.in-Some-Next.slot = omega (arith, ints) in
    rw same (record {
      reached = reaches_more c.args.code.now c.args.env.now s t u c.loop-used.used c.loop-used.invariant.reached steps;
      only = spent_in_next c.args.code.now c.args.env.now s t u c.loop-used.used c.loop-used.invariant.only steps only;
      same = c.in-Some-Next.ensures.shapes ∙ c.loop-used.invariant.same;
    })

pub returns-in-None-clause-ending : goal.returns-in-None-clause-ending
returns-in-None-clause-ending c =
    let s : State = state_of (pos 0) c.args.scratch.now c.args.store.now c.args.frame.now in
    let t : State = state_of (cast_signed w64 c.loop-used.next-bits) c.loop-used.scratch c.loop-used.store c.loop-used.frame in
    let u : State = state_of (cast_signed w64 c.loop-used.next-bits) c.step.new.scratch c.step.new.store c.step.new.frame in
    let same : u ≡ t =
    ap (λ (x : Scratch). state_of (cast_signed w64 c.loop-used.next-bits) x c.step.new.store c.step.new.frame) c.in-None.ensures.unchanged.0
    ∙ ap (λ (m : List Map). state_of (cast_signed w64 c.loop-used.next-bits) c.loop-used.scratch m c.step.new.frame) c.in-None.ensures.unchanged.1
    ∙ ap (λ (p : Packet). state_of (cast_signed w64 c.loop-used.next-bits) c.loop-used.scratch c.loop-used.store p) c.in-None.ensures.unchanged.2 in
    (cast_signed w64 c.loop-used.next-bits, ends_nowhere c.args.code.now c.args.env.now s t u c.loop-used.used c.args.budget c.loop-used.invariant.only c.loop-used.invariant.reached c.loop-used-test.true c.in-None.ensures.none same)

pub returns-in-Some-End-clause-ending : goal.returns-in-Some-End-clause-ending
returns-in-Some-End-clause-ending c =
    let s : State = state_of (pos 0) c.args.scratch.now c.args.store.now c.args.frame.now in
    let t : State = state_of (cast_signed w64 c.loop-used.next-bits) c.loop-used.scratch c.loop-used.store c.loop-used.frame in
    let u : State = state_of (cast_signed w64 c.loop-used.next-bits) c.step.new.scratch c.step.new.store c.step.new.frame in
    let steps = rw c.in-Some-End.field-0-is at (c.in-Some-End.ensures.some) in
    let only = rw c.in-Some-End.field-0-is at (c.in-Some-End.ensures.only) in
    (cast_signed w64 c.loop-used.next-bits, ends_ended c.args.code.now c.args.env.now s t u c.loop-used.used c.args.budget c.loop-used.invariant.only c.loop-used.invariant.reached c.loop-used-test.true steps only)

pub returns-in-Some-Fault-clause-ending : goal.returns-in-Some-Fault-clause-ending
returns-in-Some-Fault-clause-ending c =
    let s : State = state_of (pos 0) c.args.scratch.now c.args.store.now c.args.frame.now in
    let t : State = state_of (cast_signed w64 c.loop-used.next-bits) c.loop-used.scratch c.loop-used.store c.loop-used.frame in
    let u : State = state_of (cast_signed w64 c.loop-used.next-bits) c.step.new.scratch c.step.new.store c.step.new.frame in
    let steps = rw c.in-Some-Fault.field-0-is at (c.in-Some-Fault.ensures.some) in
    let only = rw c.in-Some-Fault.field-0-is at (c.in-Some-Fault.ensures.only) in
    (cast_signed w64 c.loop-used.next-bits, ends_faulted c.args.code.now c.args.env.now s t u c.loop-used.used c.args.budget c.loop-used.invariant.only c.loop-used.invariant.reached c.loop-used-test.true steps only)

pub returns-clause-ending : goal.returns-clause-ending
returns-clause-ending c =
    let s : State = state_of (pos 0) c.args.scratch.now c.args.store.now c.args.frame.now in
    let t : State = state_of (cast_signed w64 c.loop-used.next-bits) c.loop-used.scratch c.loop-used.store c.loop-used.frame in
    let all : c.loop-used.used ≡ c.args.budget = omega arith in
    (cast_signed w64 c.loop-used.next-bits, ends_spent c.args.code.now c.args.env.now s t c.loop-used.used c.args.budget c.loop-used.invariant.only c.loop-used.invariant.reached all)
