-- IPv4 (RFC 791 §3.1)
use Rattle.std.specs.Prelude.{ℕ, ◌*◌, ◌%◌, ◌==◌, ◌^◌, ◌&&◌, Bool, List, length, drop, nat_le, slice_index, if◌then◌else◌}
use Rattle.net_headers.specs.Bytes.{number_at}
use Rattle.net_headers.specs.Transport.{transport_ports}
use Rattle.net_headers.specs.declared.fields.Net.{Net}
use Rattle.net_headers.specs.declared.fields.Net.TheVariants.{Cut, V4}
use Rattle.net_headers.specs.declared.fields.Ports.{Ports}
use Rattle.net_headers.specs.declared.fields.Ports.TheVariants.{Absent}

-- The low half of byte 0 counts the words of 4 bytes that the header has, options included. The high half is the
-- version, which isn't looked at.
abbrev pub header_length : List ℕ → ℕ
header_length packet = slice_index packet 0 % 16 * 4

-- The header has its 20 bytes, says so, and ends within the packet.
abbrev pub has_whole_header : List ℕ → Bool
has_whole_header packet =
    nat_le 20 (length packet) && nat_le 20 (header_length packet) && nat_le (header_length packet) (length packet)

-- where in the datagram the fragment begins, in units of 8 bytes: the low 13 bits of bytes 6 and 7
abbrev pub fragment_offset : List ℕ → ℕ
fragment_offset packet = number_at packet 6 2 % 2 ^ 13

-- The source address is in bytes 12 to 15, the destination address in 16 to 19.
unfoldable pub ipv4_net : List ℕ → Net
ipv4_net packet = if has_whole_header packet then V4 (number_at packet 12 4) (number_at packet 16 4) else Cut

-- Byte 9 is the protocol. Only the first fragment begins with its header.
unfoldable pub ipv4_ports : List ℕ → Ports
ipv4_ports packet =
    if has_whole_header packet && fragment_offset packet == 0
    then transport_ports (slice_index packet 9) (drop (header_length packet) packet)
    else Absent
