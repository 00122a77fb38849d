use Rattle.std.specs.Prelude.{◌≢◌, ℕ, ◌==◌, List, if◌then◌else◌}
use Rattle.net_headers.specs.Bytes.{number_at}
use Rattle.net_headers.specs.Ethernet.{ether_type_of, has_cut_tag, packet_of}
use Rattle.net_headers.specs.Ipv4.{ipv4_net, ipv4_ports}
use Rattle.net_headers.specs.Ipv6.{ipv6_net, ipv6_ports}
use Rattle.net_headers.specs.declared.fields.Headers.{Headers}
use Rattle.net_headers.specs.declared.fields.Net.{Net}
use Rattle.net_headers.specs.declared.fields.Net.TheVariants as net
use Rattle.net_headers.specs.declared.fields.Ports.{Ports}
use Rattle.net_headers.specs.declared.fields.Ports.TheVariants as ports

-- The type 0x0800 announces IPv4 (RFC 894), and 0x86DD IPv6 (RFC 2464 §3).
unfoldable pub net_of : List ℕ → Net
net_of frame =
    if ether_type_of frame == 0x0800 then ipv4_net (packet_of frame)
    else if ether_type_of frame == 0x86DD then ipv6_net (packet_of frame)
    else if has_cut_tag frame then net.Cut
    else net.Absent

unfoldable pub ports_of : List ℕ → Ports
ports_of frame =
    if ether_type_of frame == 0x0800 then ipv4_ports (packet_of frame)
    else if ether_type_of frame == 0x86DD then ipv6_ports (packet_of frame)
    else ports.Absent

-- The header fields of a frame of at least 14 bytes. It begins with the destination address, and the source address is
-- behind that, of 6 bytes each (IEEE 802.3 §3.2).
unfoldable pub headers_of : List ℕ → Headers
headers_of frame = record {
  source = number_at frame 6 6;
  target = number_at frame 0 6;
  ether_type = ether_type_of frame;
  net = net_of frame;
  ports = ports_of frame;
}

-- No header that was looked for ends too early.
pub record IsComplete (headers : Headers) : Type 0 where
  pub net : headers.net ≢ net.Cut
  pub ports : headers.ports ≢ ports.Cut
