use Rattle.std.specs.Prelude.{ℕ, ◌==◌, List, length, nat_lt, if◌then◌else◌}
use Rattle.net_headers.specs.Bytes.{number_at}
use Rattle.net_headers.specs.declared.fields.Ports.{Ports}
use Rattle.net_headers.specs.declared.fields.Ports.TheVariants.{Absent, Cut, Tcp, Udp}

-- TCP (RFC 9293 §3.1): at least 20 bytes, the source port in bytes 0 and 1, the destination port in 2 and 3
abbrev pub tcp_ports : List ℕ → Ports
tcp_ports segment = if nat_lt (length segment) 20 then Cut else Tcp (number_at segment 0 2) (number_at segment 2 2)

-- UDP (RFC 768): at least 8 bytes, the ports at the same places
abbrev pub udp_ports : List ℕ → Ports
udp_ports datagram = if nat_lt (length datagram) 8 then Cut else Udp (number_at datagram 0 2) (number_at datagram 2 2)

-- the ports of what an IP packet carries, by its protocol number: 6 is TCP, and 17 is UDP
unfoldable pub transport_ports : ℕ → List ℕ → Ports
transport_ports protocol payload =
    if protocol == 6 then tcp_ports payload
    else if protocol == 17 then udp_ports payload
    else Absent
