-- A block's type and length, and what a section header adds to them: pcapng, sections 3.1 and 4.1.
-- They are read from the block's first twelve bytes, of which fewer are given where the input ends before.
use Rattle.std.specs.Prelude.{ℕ, ◌%◌, Bool, ◌==◌, ◌&&◌, ◌||◌, not, nat_lt, is_none, unwrap_or, List, [], ◌∷◌, length, Option, Some, None, if◌then◌else◌}
use Rattle.pcapng_text.specs.declared.endian.Endian.{Endian}
use Rattle.pcapng_text.specs.declared.endian.Endian.TheVariants.{Little, Big}
use Rattle.pcapng_text.specs.declared.rule.Rule.{Rule}
use Rattle.pcapng_text.specs.declared.rule.Rule.TheVariants.{ShortRest, NoSection, BadMagic, BadLength}
use Rattle.pcapng_text.specs.Endian.{u32_at}

-- the type 0x0A0D0D0A reads alike in both orders
unfoldable pub is_section : List ℕ → Bool
is_section head = u32_at Little head 0 == 0x0A0D0D0A

-- the order in which a section header's magic is 0x1A2B3C4D
unfoldable pub magic_order : List ℕ → Option Endian
magic_order head =
    if u32_at Little head 8 == 0x1A2B3C4D then Some Little
    else if u32_at Big head 8 == 0x1A2B3C4D then Some Big
    else None

-- a section header is read in its own order, other blocks in that of their section
unfoldable pub order_of : Endian → List ℕ → Endian
order_of endian head = if is_section head then unwrap_or (magic_order head) endian else endian

unfoldable pub is_bad_size : ℕ → Bool
is_bad_size size = nat_lt size 12 || not (size % 4 == 0) || nat_lt 16777216 size

unfoldable pub size_of : Endian → List ℕ → ℕ
size_of endian head = u32_at (order_of endian head) head 4

-- at a place in the input, 0 for its first block
unfoldable pub start_rules : ℕ → Endian → List ℕ → List (Bool × Rule)
start_rules place endian head =
    (nat_lt (length head) 12, ShortRest)
    ∷ ((place == 0) && not (is_section head), NoSection)
    ∷ (is_section head && is_none (magic_order head), BadMagic)
    ∷ (is_bad_size (size_of endian head), BadLength)
    ∷ []
