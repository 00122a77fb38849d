-- IPv6 (RFC 8200)
use Rattle.std.specs.Prelude.{◌≡◌, ℕ, zero, suc, ◌+◌, ◌*◌, ◌/◌, ◌==◌, ◌&&◌, ◌||◌, Bool, IsTrue, IsFalse, List, [], ◌∷◌, length, drop, nat_lt, not, slice_index, if◌then◌else◌}
use Rattle.net_headers.specs.Bytes.{number_at}
use Rattle.net_headers.specs.Transport.{transport_ports}
use Rattle.net_headers.specs.declared.fields.Net.{Net}
use Rattle.net_headers.specs.declared.fields.Net.TheVariants as net
use Rattle.net_headers.specs.declared.fields.Ports.{Ports}
use Rattle.net_headers.specs.declared.fields.Ports.TheVariants as ports

-- The extension headers, by the number that announces one (§4): hop-by-hop options 0, routing 43, fragment 44,
-- authentication 51 (RFC 4302), destination options 60 and mobility 135 (RFC 6275 §6.1).
unfoldable pub is_extension : ℕ → Bool
is_extension next_header =
    next_header == 0
    || next_header == 43
    || next_header == 44
    || next_header == 51
    || next_header == 60
    || next_header == 135

-- A fragment header has 8 bytes (§4.5). Byte 1 of an authentication header counts words of 4 bytes, less 2 (RFC 4302
-- §2.2), and that of the others units of 8 bytes behind the first 8 (§4.3).
unfoldable pub extension_length : ℕ → List ℕ → ℕ
extension_length next_header header =
    if next_header == 44 then 8
    else if next_header == 51 then (slice_index header 1 + 2) * 4
    else (slice_index header 1 + 1) * 8

-- The header is that of a fragment behind the first: the high 13 bits of bytes 2 and 3 are its offset (§4.5).
unfoldable pub is_later_fragment : ℕ → List ℕ → Bool
is_later_fragment next_header header = next_header == 44 && not (number_at header 2 2 / 8 == 0)

-- The ports behind at most so many extension headers, the first of which the number announces. Byte 0 of an extension
-- header announces what is behind it.
unfoldable pub ports_behind : ℕ → ℕ → List ℕ → Ports
ports_behind zero next_header bytes = transport_ports next_header bytes
ports_behind (suc more) next_header bytes =
    if not (is_extension next_header) then transport_ports next_header bytes
    else if nat_lt (length bytes) (extension_length next_header bytes) then ports.Cut
    else if is_later_fragment next_header bytes then ports.Absent
    else ports_behind more (slice_index bytes 0) (drop (extension_length next_header bytes) bytes)

-- The header has 40 bytes, the source address in bytes 8 to 23, the destination address in 24 to 39 (§3).
unfoldable pub ipv6_net : List ℕ → Net
ipv6_net packet =
    if nat_lt (length packet) 40 then net.Cut
    else net.V6 (number_at packet 8 16) (number_at packet 24 16)

-- Byte 6 announces what is behind the header. Six extension headers are passed at most.
unfoldable pub ipv6_ports : List ℕ → Ports
ipv6_ports packet =
    if nat_lt (length packet) 40 then ports.Absent
    else ports_behind 6 (slice_index packet 6) (drop 40 packet)

-- a whole extension header, of no later fragment
pub record IsExtension (next_header : ℕ) (header : List ℕ) : Type 0 where
  pub known : IsTrue (is_extension next_header)
  pub whole : length header ≡ extension_length next_header header
  pub first : IsFalse (is_later_fragment next_header header)

-- Extension headers one behind the other: the first is what the number announces, and the last announces the protocol.
abbrev pub IsChain : ℕ → List (List ℕ) → ℕ → Type 0
IsChain next_header [] protocol = next_header ≡ protocol
IsChain next_header (header ∷ headers) protocol =
    IsExtension next_header header × IsChain (slice_index header 0) headers protocol
