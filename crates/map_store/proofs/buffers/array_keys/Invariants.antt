use Rattle.std.proofs.Common.{◌≡◌, ℕ, ◌*◌, ◌<◌, length}
use Rattle.byteorder.specs.Endian.{little_bytes}
use Rattle.map_store.specs.SlotsView.{part}
use Rattle.map_store.proofs.buffers.array_keys.Given as goal

abbrev pub invariant-loop-place : goal.invariant-loop-place
invariant-loop-place l = record {
  size : length l.keys.items ≡ l.place * 4;
  keys : (k : ℕ) → k < l.place → part 4 4 l.keys.items k ≡ little_bytes 4 k;
}
