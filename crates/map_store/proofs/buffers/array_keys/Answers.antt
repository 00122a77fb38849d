use Rattle.std.proofs.Common.{◌≡◌, ◌+◌, ◌*◌, ◌++◌, length, ap, arith, length-append}
use Rattle.map_store.proofs.Start.{array_keys-more}
use Rattle.map_store.proofs.buffers.array_keys.Goals as goal

pub loop-place-preserved : goal.loop-place-preserved
loop-place-preserved c =
    let items : c.extend_from_slice.new.self.items ≡ c.loop-place.keys.items ++ c.to_le_bytes.result = c.in_ok-extend_from_slice.ensures.items in
    let four : length c.to_le_bytes.result ≡ 4 = ap length c.to_le_bytes.ensures in
    let sum : length (c.loop-place.keys.items ++ c.to_le_bytes.result) ≡ length c.loop-place.keys.items + length c.to_le_bytes.result = length-append c.loop-place.keys.items c.to_le_bytes.result in
    let before : length c.loop-place.keys.items ≡ c.loop-place.place * 4 = c.loop-place.invariant.size in
    record {
      size = rw items (omega arith);
      keys = rw items (array_keys-more c.loop-place.keys.items c.to_le_bytes.result c.loop-place.place c.loop-place.invariant.size c.to_le_bytes.ensures four c.loop-place.invariant.keys);
    }
