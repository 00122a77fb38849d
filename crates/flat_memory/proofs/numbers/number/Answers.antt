use Rattle.std.proofs.Common.{◌∙◌}
use Rattle.std.proofs.lemmas.List.{take_rest}
use Rattle.flat_memory.proofs.Bytes.{byte_number, little_number-drop}
use Rattle.flat_memory.proofs.numbers.number.Goals as goal

pub returns-in-Byte : goal.returns-in-Byte
returns-in-Byte c = rw c.in-Byte.is (byte_number c.args.place c.args.bytes.now)

pub returns-in-Half : goal.returns-in-Half
returns-in-Half c = rw c.in-Half.is ((rw take_rest at c.read_u16.ensures) ∙ little_number-drop c.args.place 2 c.args.bytes.now)

pub returns-in-Word : goal.returns-in-Word
returns-in-Word c = rw c.in-Word.is ((rw take_rest at c.read_u32.ensures) ∙ little_number-drop c.args.place 4 c.args.bytes.now)

pub returns-in-Double : goal.returns-in-Double
returns-in-Double c = rw c.in-Double.is ((rw take_rest at c.read_u64.ensures) ∙ little_number-drop c.args.place 8 c.args.bytes.now)
