use Rattle.std.proofs.Common.{◌≡◌, [], replicate}
use Rattle.script_text.proofs.trace_read.no_packets.Given as goal

abbrev pub invariant-loop : goal.invariant-loop
invariant-loop l = l.counts.items ≡ replicate l.counter []
