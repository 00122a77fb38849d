-- The bytes of blocks that are written, with every number little endian: pcapng, sections 3.1, 3.5 and 4.1 to 4.3.
use Rattle.std.specs.Prelude.{ℕ, ◌+◌, ◌-◌, ◌/◌, ◌%◌, ◌^◌, List, [], ◌∷◌, ◌++◌, length, take, replicate, codes, Option, Some, None}
use Rattle.std.specs.Fmt.{decimal}
use Rattle.byteorder.specs.Endian.{little_bytes}
use Rattle.xio.specs.Action.{number}
use Rattle.xio.specs.declared.action.Action.{Action}
use Rattle.pcapng_text.specs.Options.{padded}
use Rattle.pcapng_text.specs.declared.packet_options.PacketOptions.{PacketOptions}

abbrev pub u16_bytes : ℕ → List ℕ
u16_bytes n = little_bytes 2 n

abbrev pub u32_bytes : ℕ → List ℕ
u32_bytes n = little_bytes 4 n

abbrev pub u64_bytes : ℕ → List ℕ
u64_bytes n = little_bytes 8 n

-- the zeros that pad so many bytes to 32 bits
unfoldable pub padding : ℕ → List ℕ
padding size = take (padded size - size) (0 ∷ 0 ∷ 0 ∷ [])

-- the length of a block: its type, two lengths, the fields in front, the padded data and the options
unfoldable pub block_size : List ℕ → List ℕ → List ℕ → ℕ
block_size fields content options = 12 + length fields + padded (length content) + length options

unfoldable pub block_bytes : ℕ → List ℕ → List ℕ → List ℕ → List ℕ
block_bytes kind fields content options =
    u32_bytes kind
    ++ u32_bytes (block_size fields content options)
    ++ fields
    ++ content
    ++ padding (length content)
    ++ options
    ++ u32_bytes (block_size fields content options)

unfoldable pub option_bytes : ℕ → List ℕ → List ℕ
option_bytes code value = u16_bytes code ++ u16_bytes (length value) ++ value ++ padding (length value)

-- opt_endofopt
abbrev pub end_of_options : List ℕ
end_of_options = u32_bytes 0

-- a section header of version 1.0 and of no stated length
abbrev pub section_fields : List ℕ
section_fields = u32_bytes 0x1A2B3C4D ++ u16_bytes 1 ++ u16_bytes 0 ++ replicate 8 255

unfoldable pub section_bytes : List ℕ
section_bytes = block_bytes 0x0A0D0D0A section_fields [] []

-- LINKTYPE_ETHERNET and a snap length
abbrev pub interface_fields : ℕ → List ℕ
interface_fields snap = u16_bytes 1 ++ u16_bytes 0 ++ u32_bytes snap

-- if_name, and if_tsresol for nanoseconds
abbrev pub interface_options : List ℕ → List ℕ
interface_options name = option_bytes 2 name ++ option_bytes 9 (9 ∷ []) ++ end_of_options

unfoldable pub interface_bytes : List ℕ → ℕ → List ℕ
interface_bytes name snap = block_bytes 1 (interface_fields snap) [] (interface_options name)

-- a packet of an interface: its time in two halves, how many bytes are kept, and the length of the whole packet
abbrev pub fields_of : ℕ → ℕ → ℕ → ℕ → ℕ → List ℕ
fields_of interface upper lower kept size =
    u32_bytes interface ++ u32_bytes upper ++ u32_bytes lower ++ u32_bytes kept ++ u32_bytes size

abbrev pub packet_fields : ℕ → ℕ → ℕ → ℕ → List ℕ
packet_fields interface timestamp kept size = fields_of interface (timestamp / 2 ^ 32) (timestamp % 2 ^ 32) kept size

-- epb_verdict of the kind Linux XDP action (2)
abbrev pub action_option : Action → List ℕ
action_option action = option_bytes 7 (2 ∷ u64_bytes (number action))

abbrev pub verdict_option : Option Action → List ℕ
verdict_option (Some action) = action_option action
verdict_option None = []

-- the number of publications, as a comment
abbrev pub comment : ℕ → List ℕ
comment publication = codes "publication=" ++ decimal publication

-- opt_comment, epb_packetid, epb_queue and epb_verdict
unfoldable pub packet_options : PacketOptions → List ℕ
packet_options options =
    option_bytes 1 (comment options.publication)
    ++ option_bytes 5 (u64_bytes options.id)
    ++ option_bytes 6 (u32_bytes options.queue)
    ++ verdict_option options.verdict
    ++ end_of_options

-- the length of its block
unfoldable pub packet_size : List ℕ → PacketOptions → ℕ
packet_size kept options = 32 + padded (length kept) + length (packet_options options)

unfoldable pub packet_bytes : ℕ → ℕ → ℕ → List ℕ → PacketOptions → List ℕ
packet_bytes interface timestamp size kept options =
    block_bytes 6 (packet_fields interface timestamp (length kept) size) kept (packet_options options)
