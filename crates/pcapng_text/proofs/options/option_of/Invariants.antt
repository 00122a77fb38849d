use Rattle.std.proofs.Common.{◌≡◌, ◌%◌, true, length}
use Rattle.pcapng_text.specs.Options.{are_inside, option_of}
use Rattle.pcapng_text.proofs.options.option_of.Given as goal

abbrev pub invariant-loop-rest : goal.invariant-loop-rest
invariant-loop-rest l = record {
  even : length l.rest % 4 ≡ 0;
  inside : are_inside l.endian l.rest ≡ true;
  same : option_of l.endian l.code l.rest ≡ option_of l.endian l.code l.bytes;
}

abbrev pub decreases-loop-rest : goal.decreases-loop-rest
decreases-loop-rest l = length l.rest
