-- What stands behind the headers of a frame changes none of its fields.
use Rattle.std.proofs.Common.{◌≡◌, ◌≢◌, ℕ, zero, suc, ◌+◌, ◌<◌, ◌≤◌, List, ◌++◌, length, drop, true, false, get_or, arith, ◌∙◌, sym, length-append}
use Rattle.std.proofs.lemmas.Grind.{common_steps}
use Rattle.net_headers.specs.Transport.{transport_ports}
use Rattle.net_headers.specs.Ipv4.{ipv4_net, ipv4_ports}
use Rattle.net_headers.specs.Ipv6.{ipv6_net, ipv6_ports, ports_behind}
use Rattle.net_headers.specs.Ethernet.{is_tag, type_place, has_tag, tag_count, ether_type_of, has_cut_tag, packet_of}
use Rattle.net_headers.specs.Headers.{net_of, ports_of, headers_of, IsComplete}
use Rattle.net_headers.specs.declared.fields.Net.TheVariants as net
use Rattle.net_headers.specs.declared.fields.Ports.TheVariants as ports
use Rattle.net_headers.proofs.Numbers.{number_at-append}
use Rattle.net_headers.proofs.Walk.{ipv6_ports-whole, least_extension, extension_length-append, is_later_fragment-append}

transport_ports-append : (protocol : ℕ) (payload more : List ℕ) → transport_ports protocol payload ≢ ports.Cut
    → transport_ports protocol (payload ++ more) ≡ transport_ports protocol payload
unfolding transport_ports
transport_ports-append protocol payload more complete = grind (arith, common_steps, number_at-append)

ipv4_net-append : (packet more : List ℕ) → ipv4_net packet ≢ net.Cut → ipv4_net (packet ++ more) ≡ ipv4_net packet
unfolding ipv4_net
ipv4_net-append packet more complete = grind (arith, common_steps, number_at-append)

ipv4_ports-append : (packet more : List ℕ) → ipv4_net packet ≢ net.Cut → ipv4_ports packet ≢ ports.Cut
    → ipv4_ports (packet ++ more) ≡ ipv4_ports packet
unfolding ipv4_net ipv4_ports
ipv4_ports-append packet more whole complete =
    grind (arith, common_steps, number_at-append, transport_ports-append)

ports_behind-append : (left next_header : ℕ) (bytes more : List ℕ) → ports_behind left next_header bytes ≢ ports.Cut
    → ports_behind left next_header (bytes ++ more) ≡ ports_behind left next_header bytes
unfolding ports_behind
ports_behind-append zero next_header bytes more complete = transport_ports-append next_header bytes more complete
ports_behind-append (suc left) next_header bytes more complete =
    grind (
      arith,
      common_steps,
      transport_ports-append,
      least_extension,
      extension_length-append,
      is_later_fragment-append,
      ports_behind-append left,
    )

ipv6_net-append : (packet more : List ℕ) → ipv6_net packet ≢ net.Cut → ipv6_net (packet ++ more) ≡ ipv6_net packet
unfolding ipv6_net
ipv6_net-append packet more complete = grind (arith, common_steps, number_at-append)

behind_header : (size : ℕ) (packet more : List ℕ) → 6 < size → size ≤ length packet
    → ports_behind 6 (get_or packet 6 0) (drop size packet) ≢ ports.Cut
    → ports_behind 6 (get_or (packet ++ more) 6 0) (drop size (packet ++ more))
    ≡ ports_behind 6 (get_or packet 6 0) (drop size packet)
behind_header size packet more some within complete = grind (arith, common_steps, ports_behind-append)

long_header : (packet : List ℕ) → ipv6_net packet ≢ net.Cut → 40 ≤ length packet
unfolding ipv6_net
long_header packet whole = grind arith

ipv6_ports-append : (packet more : List ℕ) → ipv6_net packet ≢ net.Cut → ipv6_ports packet ≢ ports.Cut
    → ipv6_ports (packet ++ more) ≡ ipv6_ports packet
ipv6_ports-append packet more whole complete =
    let long : 40 ≤ length packet = long_header packet whole in
    let longer : 40 ≤ length (packet ++ more) = omega (arith, length-append packet more) in
    let same = ipv6_ports-whole packet long in
    let kept : ports_behind 6 (get_or packet 6 0) (drop 40 packet) ≢ ports.Cut = λ cut. complete (same ∙ cut) in
    ipv6_ports-whole (packet ++ more) longer ∙ behind_header 40 packet more (omega arith) long kept ∙ sym same

-- a tag's type is none of IP
no_tag : (ether_type : ℕ) → is_tag ether_type ≡ true → (ether_type ≢ 0x0800) × (ether_type ≢ 0x86DD)
unfolding is_tag
no_tag ether_type tag = grind arith

whole_tags : (frame : List ℕ) → net_of frame ≢ net.Cut → has_cut_tag frame ≡ false
unfolding net_of has_cut_tag
whole_tags frame whole = grind (arith, no_tag)

type_within : (frame : List ℕ) → 14 ≤ length frame → type_place (tag_count frame) + 2 ≤ length frame
unfolding tag_count has_tag
type_within frame long = grind arith

tag_count-append : (frame more : List ℕ) → 14 ≤ length frame → has_cut_tag frame ≡ false
    → tag_count (frame ++ more) ≡ tag_count frame
unfolding tag_count has_tag has_cut_tag ether_type_of
tag_count-append frame more long whole = grind (arith, common_steps, number_at-append)

ether_type_of-append : (frame more : List ℕ) → 14 ≤ length frame → has_cut_tag frame ≡ false
    → ether_type_of (frame ++ more) ≡ ether_type_of frame
unfolding ether_type_of
ether_type_of-append frame more long whole = grind (arith, tag_count-append, type_within, number_at-append)

packet_of-append : (frame more : List ℕ) → 14 ≤ length frame → has_cut_tag frame ≡ false
    → packet_of (frame ++ more) ≡ packet_of frame ++ more
unfolding packet_of
packet_of-append frame more long whole = grind (arith, common_steps, tag_count-append, type_within)

has_cut_tag-append : (frame more : List ℕ) → 14 ≤ length frame → has_cut_tag frame ≡ false
    → has_cut_tag (frame ++ more) ≡ false
unfolding has_cut_tag
has_cut_tag-append frame more long whole = grind (arith, tag_count-append, ether_type_of-append)

ruleset tags = (whole_tags, ether_type_of-append, packet_of-append, has_cut_tag-append)

net_of-append : (frame more : List ℕ) → 14 ≤ length frame → net_of frame ≢ net.Cut
    → net_of (frame ++ more) ≡ net_of frame
unfolding net_of
net_of-append frame more long whole = grind (arith, tags, ipv4_net-append, ipv6_net-append)

ports_of-append : (frame more : List ℕ) → 14 ≤ length frame → net_of frame ≢ net.Cut → ports_of frame ≢ ports.Cut
    → ports_of (frame ++ more) ≡ ports_of frame
unfolding net_of ports_of
ports_of-append frame more long whole complete = grind (arith, tags, ipv4_ports-append, ipv6_ports-append)

pub headers_of-append : (frame more : List ℕ) → 14 ≤ length frame → IsComplete (headers_of frame)
    → headers_of (frame ++ more) ≡ headers_of frame
unfolding headers_of
headers_of-append frame more long complete =
    rw (
      number_at-append frame more 6 6 (omega arith),
      number_at-append frame more 0 6 (omega arith),
      ether_type_of-append frame more long (whole_tags frame complete.net),
      net_of-append frame more long complete.net,
      ports_of-append frame more long complete.net complete.ports,
    )
