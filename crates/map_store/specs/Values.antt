-- The values of live slots stand at fixed addresses: slot s of map m at 0x40000000 + m * 0x01000000 + s * the rounded value size.
use Rattle.std.specs.Prelude.{ℕ, ◌+◌, ◌-◌, ◌*◌, ◌/◌, ◌%◌, Bool, false, not, ◌&&◌, nat_le, List, length, slice_get, slice_index_or, slice_set, Option, Some, None, if◌then◌else◌}
use Rattle.std.specs.Option.{option_map}
use Rattle.flat_memory.specs.Memory.{Memory, number_at, bytes_at}
use Rattle.flat_memory.specs.Numbers.{with_bytes, size_of}
use Rattle.bpf_insn.specs.declared.operation.Size.{Size}
use Rattle.map_store.specs.Spec.{rounded}
use Rattle.map_store.specs.Slots.{Map, Entry, map_at, with_map, is_shared, place_of}

-- where the values begin, and how far the maps stand apart
abbrev pub values_start : ℕ
values_start = 0x40000000

abbrev pub map_room : ℕ
map_room = 0x01000000

abbrev pub value_address : ℕ → Map → ℕ → ℕ
value_address number map place = values_start + number * map_room + place * rounded map.value_size

-- the address of the value of a key
unfoldable pub lookup_of : List Map → ℕ → List ℕ → Option ℕ
lookup_of maps number key = option_map (value_address number (map_at maps number)) (place_of key (map_at maps number).slots)

-- the number of the map whose room has an address, and the offset in it
abbrev pub number_of : ℕ → ℕ
number_of address = (address - values_start) / map_room

abbrev pub offset_of : ℕ → ℕ
offset_of address = (address - values_start) % map_room

-- the slot whose room has an offset, and the place of the byte in it
abbrev pub slot_at : Map → ℕ → Option Entry
slot_at map offset = slice_index_or map.slots (offset / rounded map.value_size) None

abbrev pub byte_at : Map → ℕ → ℕ
byte_at map offset = offset % rounded map.value_size

abbrev pub byte_in : Option Entry → ℕ → Option ℕ
byte_in None byte = None
byte_in (Some entry) byte = slice_get entry.value byte

-- n bytes from this one on lie in the value of a live slot
abbrev pub has_bytes : Option Entry → ℕ → ℕ → Bool
has_bytes None byte n = false
has_bytes (Some entry) byte n = nat_le (byte + n) (length entry.value)

-- the bytes of a map's values by their offsets, and whether n of them from an offset on lie in one value
unfoldable pub values_in : Map → Memory
values_in map offset = byte_in (slot_at map offset) (byte_at map offset)

unfoldable pub can_read_in : Map → ℕ → ℕ → Bool
can_read_in map offset n = has_bytes (slot_at map offset) (byte_at map offset) n

unfoldable pub load_in : Map → ℕ → Size → Option ℕ
load_in map offset size = if can_read_in map offset (size_of size) then Some (number_at (values_in map) offset (size_of size)) else None

-- the n bytes from an offset on
unfoldable pub bytes_in : Map → ℕ → ℕ → Option (List ℕ)
bytes_in map offset n = if can_read_in map offset n then Some (bytes_at (values_in map) offset n) else None

unfoldable pub can_write_in : Map → ℕ → ℕ → Bool
can_write_in map offset n = can_read_in map offset n && not (is_shared map.kind)

-- the bytes of all values by their addresses
unfoldable pub values : List Map → Memory
values maps address = if nat_le values_start address then values_in (map_at maps (number_of address)) (offset_of address) else None

-- all n bytes from an address on lie in the value of one live slot, and programs may write there
unfoldable pub can_read : List Map → ℕ → ℕ → Bool
can_read maps address n = nat_le values_start address && can_read_in (map_at maps (number_of address)) (offset_of address) n

unfoldable pub can_write : List Map → ℕ → ℕ → Bool
can_write maps address n = nat_le values_start address && can_write_in (map_at maps (number_of address)) (offset_of address) n

-- the number that a load gives
unfoldable pub load_of : List Map → ℕ → Size → Option ℕ
load_of maps address size = if can_read maps address (size_of size) then Some (number_at (values maps) address (size_of size)) else None

-- the n bytes from an address on
unfoldable pub bytes_of : List Map → ℕ → ℕ → Option (List ℕ)
bytes_of maps address n = if can_read maps address n then Some (bytes_at (values maps) address n) else None

-- a slot with bytes written over its value
abbrev pub slot_written : Option Entry → ℕ → List ℕ → Option Entry
slot_written None byte bytes = None
slot_written (Some entry) byte bytes = Some (record entry { value = with_bytes entry.value byte bytes })

-- a map with bytes written at an offset, and the maps with bytes written at an address
unfoldable pub map_written : Map → ℕ → List ℕ → Map
map_written map offset bytes =
    record map { slots = slice_set map.slots (offset / rounded map.value_size) (slot_written (slot_at map offset) (byte_at map offset) bytes) }

unfoldable pub maps_written : List Map → ℕ → List ℕ → List Map
maps_written maps address bytes =
    with_map maps (number_of address) (map_written (map_at maps (number_of address)) (offset_of address) bytes)
