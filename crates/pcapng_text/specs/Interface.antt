-- Interface description blocks: pcapng, section 4.2. A block is given whole, with its type and both lengths.
use Rattle.std.specs.Prelude.{ℕ, ◌-◌, Bool, true, false, ◌==◌, not, nat_lt, nat_le, List, [], ◌∷◌, length, slice_index, slice_range, Option, if◌then◌else◌}
use Rattle.std.specs.Option.{option_map_or}
use Rattle.pcapng_text.specs.declared.endian.Endian.{Endian}
use Rattle.pcapng_text.specs.declared.interface_block.Interface.{Interface}
use Rattle.pcapng_text.specs.declared.rule.Rule.{Rule}
use Rattle.pcapng_text.specs.declared.rule.Rule.TheVariants.{ShortInterface, LinkType, BadOption, BinaryResolution}
use Rattle.pcapng_text.specs.Endian.{u16_at, u32_at}
use Rattle.pcapng_text.specs.Options.{are_inside, option_of, option_size}

-- the options stand behind link type and snap length
unfoldable pub options_of : List ℕ → List ℕ
options_of block = slice_range block 16 (length block - 4)

-- the first if_tsresol (9)
abbrev pub unit_option : Endian → List ℕ → Option (List ℕ)
unit_option endian options = option_of endian 9 options

-- timestamps count seconds over ten to this power, or over a power of two from 128 on; microseconds where no option says so
unfoldable pub resolution_in : Endian → List ℕ → ℕ
resolution_in endian options = option_map_or (λ unit. slice_index unit 4) (unit_option endian options) 6

-- an option passes the body's end, or the unit hasn't one byte
unfoldable pub has_bad_option : Endian → List ℕ → Bool
has_bad_option endian options =
    if are_inside endian options
    then option_map_or (λ unit. not (option_size endian unit == 1)) (unit_option endian options) false
    else true

-- the link type is LINKTYPE_ETHERNET (1)
unfoldable pub interface_rules : Endian → List ℕ → List (Bool × Rule)
interface_rules endian block =
    (nat_lt (length block) 20, ShortInterface)
    ∷ (not (u16_at endian block 8 == 1), LinkType)
    ∷ (has_bad_option endian (options_of block), BadOption)
    ∷ (nat_le 128 (resolution_in endian (options_of block)), BinaryResolution)
    ∷ []

unfoldable pub interface_of : Endian → List ℕ → Interface
interface_of endian block = record {
  snap = u32_at endian block 12;
  resolution = resolution_in endian (options_of block);
}
