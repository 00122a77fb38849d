-- Packet blocks, enhanced and simple: pcapng, sections 4.3 and 4.4. A block is given whole.
use Rattle.std.specs.Prelude.{ℕ, ◌+◌, ◌-◌, ◌*◌, ◌/◌, ◌^◌, ◌≤◌, Bool, ◌==◌, ◌&&◌, not, nat_lt, nat_le, min, is_none, List, [], ◌∷◌, length, slice_get, slice_range, Option, Some, None, if◌then◌else◌}
use Rattle.pcapng_text.specs.declared.endian.Endian.{Endian}
use Rattle.pcapng_text.specs.declared.interface_block.Interface.{Interface}
use Rattle.pcapng_text.specs.declared.packet_block.Claim.{Claim}
use Rattle.pcapng_text.specs.declared.rule.Rule.{Rule}
use Rattle.pcapng_text.specs.declared.rule.Rule.TheVariants.{ShortPacket, NoInterface, DataPastEnd, FrameLength, LateTimestamp}
use Rattle.pcapng_text.specs.Endian.{u32_at}
use Rattle.pcapng_text.specs.Options.{padded}

-- a simple packet block has the lesser of the packet's length and the snap length, where 0 is no limit
unfoldable pub snapped : Option Interface → ℕ → ℕ
snapped None original = original
snapped (Some interface) original = if interface.snap == 0 then original else min original interface.snap

-- a simple packet block is of interface 0, and gives no time
unfoldable pub simple_claim : Endian → List Interface → List ℕ → Claim
simple_claim endian interfaces block = record {
  interface = 0;
  time = 0;
  captured = snapped (slice_get interfaces 0) (u32_at endian block 8);
  start = 12;
}

unfoldable pub enhanced_claim : Endian → List ℕ → Claim
enhanced_claim endian block = record {
  interface = u32_at endian block 8;
  time = u32_at endian block 12 * 2 ^ 32 + u32_at endian block 16;
  captured = u32_at endian block 20;
  start = 28;
}

-- so many units of a second over ten to a power, in nanoseconds: the exact product, or the quotient rounded down
unfoldable pub nanoseconds : ℕ → ℕ → ℕ
nanoseconds resolution time = if nat_le resolution 9 then time * 10 ^ (9 - resolution) else time / 10 ^ (resolution - 9)

abbrev pub time_on : Option Interface → ℕ → ℕ
time_on (Some interface) time = nanoseconds interface.resolution time
time_on None time = 0

unfoldable pub time_of : List Interface → Claim → ℕ
time_of interfaces claim = time_on (slice_get interfaces claim.interface) claim.time

unfoldable pub frame_of : List ℕ → Claim → List ℕ
frame_of block claim = slice_range block claim.start (claim.start + claim.captured)

-- behind what a block says of its packet stand the data, padded to 32 bits, then options and the second length
unfoldable pub packet_rules : List Interface → List ℕ → Claim → List (Bool × Rule)
packet_rules interfaces block claim =
    (nat_lt (length block) (claim.start + 4), ShortPacket)
    ∷ (is_none (slice_get interfaces claim.interface), NoInterface)
    ∷ (nat_lt (length block) (claim.start + padded claim.captured + 4), DataPastEnd)
    ∷ (not (nat_le 14 claim.captured && nat_le claim.captured 15872), FrameLength)
    ∷ (not (nat_lt (time_of interfaces claim) (2 ^ 64)), LateTimestamp)
    ∷ []

-- the lengths of the frames that are taken
pub record IsFrameSize (size : ℕ) : Type 0 where
  pub some : 14 ≤ size
  pub bounded : size ≤ 15872
