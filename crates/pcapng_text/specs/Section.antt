-- What a block does to what is known of its section, and the packet that it brings: pcapng, section 4.
use Rattle.std.specs.Prelude.{◌≡◌, ℕ, ◌-◌, Bool, true, ◌==◌, not, nat_lt, List, [], ◌∷◌, ◌++◌, length, Option, Some, None, Result, Ok, Err, if◌then◌else◌}
use Rattle.pcapng_text.specs.declared.endian.Endian.{Endian}
use Rattle.pcapng_text.specs.declared.incoming.Incoming.{Incoming}
use Rattle.pcapng_text.specs.declared.interface_block.Interface.{Interface}
use Rattle.pcapng_text.specs.declared.packet_block.Claim.{Claim}
use Rattle.pcapng_text.specs.declared.refusal.Refusal.{Refusal}
use Rattle.pcapng_text.specs.declared.refusal.Refusal.TheVariants.{Broken, OutOfMemory}
use Rattle.pcapng_text.specs.declared.rule.Rule.{Rule}
use Rattle.pcapng_text.specs.declared.rule.Rule.TheVariants.{LengthsDiffer, BadSection}
use Rattle.pcapng_text.specs.Endian.{u16_at, u32_at}
use Rattle.pcapng_text.specs.Rule.{first_broken}
use Rattle.pcapng_text.specs.Interface.{interface_rules, interface_of}
use Rattle.pcapng_text.specs.Packet.{simple_claim, enhanced_claim, packet_rules, time_of, frame_of}

-- what a block leads to, with the interfaces of its section behind it
pub data Outcome : Type 0 where
  Breaks : Rule → Outcome
  Passes : List Interface → Outcome
  Brings : ℕ → List ℕ → List Interface → Outcome

abbrev pub refused_or : Option Rule → Outcome → Outcome
refused_or (Some rule) outcome = Breaks rule
refused_or None outcome = outcome

-- the rules come first
abbrev pub unless_broken : List (Bool × Rule) → Outcome → Outcome
unless_broken rules outcome = refused_or (first_broken rules) outcome

unfoldable pub section_rules : Endian → List ℕ → List (Bool × Rule)
section_rules endian block =
    (if nat_lt (length block) 28 then true else not (u16_at endian block 12 == 1), BadSection) ∷ []

unfoldable pub packet_outcome : List Interface → List ℕ → Claim → Outcome
packet_outcome interfaces block claim =
    unless_broken (packet_rules interfaces block claim)
    (Brings (time_of interfaces claim) (frame_of block claim) interfaces)

-- by the block's type: section header, interface (1), simple (3) or enhanced packet (6); others are passed over
unfoldable pub body_outcome : Endian → List Interface → List ℕ → Outcome
body_outcome endian interfaces block =
    if u32_at endian block 0 == 0x0A0D0D0A then unless_broken (section_rules endian block) (Passes [])
    else if u32_at endian block 0 == 1 then unless_broken (interface_rules endian block) (Passes (interfaces ++ interface_of endian block ∷ []))
    else if u32_at endian block 0 == 3 then packet_outcome interfaces block (simple_claim endian interfaces block)
    else if u32_at endian block 0 == 6 then packet_outcome interfaces block (enhanced_claim endian block)
    else Passes interfaces

-- a whole block, which begins and ends with its length
unfoldable pub block_outcome : Endian → List Interface → List ℕ → Outcome
block_outcome endian interfaces block =
    unless_broken ((not (u32_at endian block (length block - 4) == length block), LengthsDiffer) ∷ [])
    (body_outcome endian interfaces block)

-- an answer is that of the outcome, with the interfaces behind it; want of memory is of any
abbrev pub Answers : Outcome → List Interface → Result (Option Incoming) Refusal → Type 0
Answers outcome interfaces (Ok None) = outcome ≡ Passes interfaces
Answers outcome interfaces (Ok (Some packet)) = outcome ≡ Brings packet.timestamp packet.frame interfaces
Answers outcome interfaces (Err (Broken rule)) = outcome ≡ Breaks rule
Answers outcome interfaces (Err OutOfMemory) = Unit {0}
