use Rattle.std.proofs.Common.{◌≡◌, ℕ, ◌+◌, ◌-◌, length, take, drop, replicate, take-append-drop, ap, sym, ◌∙◌, arith}
use Rattle.std.proofs.lemmas.List.{length-replicate, length-take-le, length-drop}
use Rattle.flat_memory.specs.Numbers.{with_bytes}
use Rattle.flat_memory.proofs.Bytes.{part_written}
use Rattle.bpf_machine.proofs.frame.clear.Goals as goal

pub returns-then-start-end : goal.returns-then-start-end
returns-then-start-end c =
    let count : ℕ = c.args.end - c.args.start in
    let long : length (take count (drop c.args.start c.args.bytes.now)) ≡ count = length-take-le count (drop c.args.start c.args.bytes.now) (omega (arith, length-drop c.args.start c.args.bytes.now)) in
    let filled : c.fill.new.self ≡ replicate count 0 = c.fill.ensures.after (λ y same. same) ∙ ap (λ (n : ℕ). replicate n 0) long in
    rw filled (part_written c.args.bytes.now c.args.start count (replicate count 0) (length-replicate count 0))

pub returns-else-start-end : goal.returns-else-start-end
unfolding with_bytes
returns-else-start-end c =
    let none : c.args.end - c.args.start ≡ 0 = omega arith in
    let zero : c.args.start + 0 ≡ c.args.start = omega arith in
    rw (none, zero) (sym (take-append-drop c.args.start c.args.bytes.now))
