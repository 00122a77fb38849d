-- The parts of a written block, one behind the other, between its two lengths.
use Rattle.std.specs.Prelude.{ℕ, ◌+◌, ◌^◌, Bool, true, nat_lt, List, [], ◌∷◌, ◌++◌, length}
use Rattle.std.specs.Borrow.{Bor}
use Rattle.pcapng_text.specs.Written.{comment, option_bytes, padding, u16_bytes, u32_bytes, u64_bytes, verdict_option}
use Rattle.pcapng_text.specs.declared.parts.Part.{Part}
use Rattle.pcapng_text.specs.declared.parts.Part.TheVariants.{U16, U32, Data, Name, Unit, Publications, Identity, Queue, Verdict}

-- pieces of bytes, one behind the other
abbrev pub joined : List (Bor (List ℕ)) → List ℕ
joined [] = []
joined (piece ∷ []) = piece.now
joined (piece ∷ more) = piece.now ++ joined more

abbrev pub part_bytes : Part → List ℕ
part_bytes (U16 number) = u16_bytes number
part_bytes (U32 number) = u32_bytes number
part_bytes (Data bytes) = bytes.now ++ padding (length bytes.now)
part_bytes (Name name) = option_bytes 2 (joined name.now)
part_bytes Unit = option_bytes 9 (9 ∷ [])
part_bytes (Publications count) = option_bytes 1 (comment count)
part_bytes (Identity id) = option_bytes 5 (u64_bytes id)
part_bytes (Queue queue) = option_bytes 6 (u32_bytes queue)
part_bytes (Verdict verdict) = verdict_option verdict

abbrev pub parts_bytes : List Part → List ℕ
parts_bytes [] = []
parts_bytes (part ∷ []) = part_bytes part
parts_bytes (part ∷ more) = part_bytes part ++ parts_bytes more

-- its length can be told
abbrev pub is_short : Part → Bool
is_short (Data bytes) = nat_lt (length bytes.now) (2 ^ 32)
is_short (Name name) = nat_lt (length (joined name.now)) (2 ^ 16)
is_short _ = true

-- a block of these bytes between its lengths
unfoldable pub framed : ℕ → List ℕ → List ℕ
framed kind body = u32_bytes kind ++ u32_bytes (12 + length body) ++ body ++ u32_bytes (12 + length body)
