use Rattle.std.proofs.Common.{◌≡◌, take, vec_len}
use Rattle.interleave_core.specs.Schedule.{rows}
use Rattle.interleave_core.proofs.scheduling.slices_of.Given as goal

abbrev pub invariant-loop-place : goal.invariant-loop-place
invariant-loop-place l = record {
  slices : rows l.slices.items ≡ take l.place l.table;
  many : vec_len l.slices ≡ l.place;
}
