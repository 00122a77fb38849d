use Rattle.std.proofs.Common.{◌≡◌, ◌<◌, nat_lt, true, ◌∙◌, arith}
use Rattle.std.proofs.lemmas.List.{take_rest}
use Rattle.btf_types.proofs.Entries.{entries_fit, others_fit, others_decide}
use Rattle.std.proofs.lemmas.Bool.{lt-ltb}
use Rattle.btf_types.specs.TypeBytes.{word_at, entry_count}
use Rattle.btf_types.proofs.type_bytes.entries_below.Goals as goal

pub loop-init : goal.loop-init
loop-init c = record {
  there = rw take_rest (grind (arith, entries_fit c.args.head.now c.requires.whole));
  passes = rw take_rest (grind arith);
}

pub loop-preserved : goal.loop-preserved
loop-preserved c =
    let more : c.loop.counter < entry_count c.args.head.now = rw (← c.entry_count-end.ensures.value) c.loop-test.true in
    let passes : nat_lt (word_at c.loop.rest.now c.args.place) c.args.limit ≡ true = lt-ltb _ _ (rw (← c.word_at.ensures) c.if-word_at-limit.false) in
    let width = c.entry_width-width.result in
    record {
      there = rw take_rest (others_fit (entry_count c.args.head.now) c.loop.counter width c.loop.rest.now more c.loop.invariant.there);
      passes = rw take_rest (others_decide (λ entry. nat_lt (word_at entry c.args.place) c.args.limit) (entry_count c.args.head.now) c.loop.counter width c.loop.rest.now more passes ∙ c.loop.invariant.passes);
    }
