-- The options at a block's end: pcapng, section 3.5.
use Rattle.std.specs.Prelude.{ℕ, zero, suc, ◌+◌, ◌-◌, ◌*◌, ◌/◌, Bool, true, ◌==◌, ◌&&◌, not, nat_lt, nat_le, List, [], ◌∷◌, length, slice_index, drop, find, Option, if◌then◌else◌}
use Rattle.std.specs.List.{list_all}
use Rattle.std.specs.Option.{option_map_or}
use Rattle.pcapng_text.specs.declared.endian.Endian.{Endian}
use Rattle.pcapng_text.specs.Endian.{u16_at}

-- a length with the bytes that pad it to 32 bits
unfoldable pub padded : ℕ → ℕ
padded size = (size + 3) / 4 * 4

-- An option is given by the bytes from its first on, which go on behind its end.
unfoldable pub option_code : Endian → List ℕ → ℕ
option_code endian option = u16_at endian option 0

-- the length of its value
unfoldable pub option_size : Endian → List ℕ → ℕ
option_size endian option = u16_at endian option 2

-- all its bytes: code, length and the padded value
unfoldable pub option_length : Endian → List ℕ → ℕ
option_length endian option = 4 + padded (option_size endian option)

-- whether an option stands here, and neither the end of options (0) nor the end of the bytes
unfoldable pub has_option : Endian → List ℕ → Bool
has_option endian bytes = nat_lt 0 (length bytes) && not (option_code endian bytes == 0)

-- the options in bytes of which so many at the front still belong to an option before
abbrev pub options_behind : Endian → ℕ → List ℕ → List (List ℕ)
options_behind endian passed [] = []
options_behind endian (suc passed) (b ∷ bytes) = options_behind endian passed bytes
options_behind endian zero (b ∷ bytes) =
    if has_option endian (b ∷ bytes)
    then (b ∷ bytes) ∷ options_behind endian (option_length endian (b ∷ bytes) - 1) bytes
    else []

abbrev pub options_in : Endian → List ℕ → List (List ℕ)
options_in endian bytes = options_behind endian 0 bytes

-- no option passes the end of the bytes
unfoldable pub are_inside : Endian → List ℕ → Bool
are_inside endian bytes = list_all (λ option. nat_le (option_length endian option) (length option)) (options_in endian bytes)

-- the first option of a code
unfoldable pub option_of : Endian → ℕ → List ℕ → Option (List ℕ)
option_of endian code bytes = find (λ option. option_code endian option == code) (options_in endian bytes)
