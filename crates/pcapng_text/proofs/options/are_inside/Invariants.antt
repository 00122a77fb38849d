use Rattle.std.proofs.Common.{◌≡◌, ◌%◌, length}
use Rattle.pcapng_text.specs.Options.{are_inside}
use Rattle.pcapng_text.proofs.options.are_inside.Given as goal

abbrev pub invariant-loop-rest : goal.invariant-loop-rest
invariant-loop-rest l = record {
  even : length l.rest % 4 ≡ 0;
  same : are_inside l.endian l.rest ≡ are_inside l.endian l.bytes;
}

abbrev pub decreases-loop-rest : goal.decreases-loop-rest
decreases-loop-rest l = length l.rest
