use Rattle.std.proofs.Common.{◌≡◌, ℕ, ◌+◌, ◌<◌, nat_lt, if◌then◌else◌, slice_index, length}
use Rattle.xdp_state.specs.Capped.{capped}
use Rattle.xdp_state.proofs.tally.raise_all.Given as goal

abbrev pub invariant-loop-place : goal.invariant-loop-place
invariant-loop-place l = record {
  five : length l.sums ≡ 5;
  each : (i : ℕ) → i < 5 → slice_index l.sums i
      ≡ (if nat_lt i l.place then capped (slice_index l.initial.sums i + slice_index l.by i) else slice_index l.initial.sums i);
}
