use Rattle.std.proofs.Common.{rules, ◌≡◌, ◌+◌, ◌-◌, ◌<◌, length, ap, sym, arith}
use Rattle.flat_memory.specs.Numbers.{size_of}
use Rattle.flat_memory.proofs.Bytes.{byte_written, low_byte, number_written}
use Rattle.flat_memory.proofs.numbers.put_number.Goals as goal

pub returns-in-Byte : goal.returns-in-Byte
returns-in-Byte c =
    let within : c.args.place < length c.args.bytes.now = omega (arith, rw c.in-Byte.is at c.requires) in
    rw (c.in-Byte.is, c.to_le_bytes-low.ensures) (byte_written c.args.bytes.now c.args.place _ _ within (low_byte c.args.value))

pub returns-in-Half : goal.returns-in-Half
returns-in-Half c =
    let size : c.args.place + 2 - c.args.place ≡ 2 = omega arith in
    rw size (number_written c.args.bytes.now c.args.place 2 c.args.value c.args.size c.to_le_bytes-low.result _ (sym (ap size_of c.in-Half.is)) c.to_le_bytes-low.ensures c.copy_from_slice.ensures.after)

pub returns-in-Word : goal.returns-in-Word
returns-in-Word c =
    let size : c.args.place + 4 - c.args.place ≡ 4 = omega arith in
    rw size (number_written c.args.bytes.now c.args.place 4 c.args.value c.args.size c.to_le_bytes-low.result _ (sym (ap size_of c.in-Word.is)) c.to_le_bytes-low.ensures c.copy_from_slice-in-Word.ensures.after)

pub returns-in-Double : goal.returns-in-Double
returns-in-Double c =
    let size : c.args.place + 8 - c.args.place ≡ 8 = omega arith in
    rw size (number_written c.args.bytes.now c.args.place 8 c.args.value c.args.size c.to_le_bytes-low.result _ (sym (ap size_of c.in-Double.is)) c.to_le_bytes-low.ensures (search rules))
