-- The ports of an IPv6 packet are those of what stands behind its extension headers.
use Rattle.std.proofs.Common.{◌≡◌, ℕ, zero, suc, ◌<◌, ◌≤◌, List, [], ◌∷◌, ◌++◌, length, drop, false, get_or, arith, refl, ◌∙◌, sym, ap, append_assoc, length-append, IsFalse}
use Rattle.std.specs.List.{concat}
use Rattle.std.proofs.lemmas.Grind.{common_steps}
use Rattle.net_headers.specs.Transport.{transport_ports}
use Rattle.net_headers.specs.Ipv6.{ipv6_ports, ports_behind, is_extension, extension_length, IsExtension, IsChain}
use Rattle.net_headers.proofs.Walk.{ports_behind-other, ports_behind-passed, ipv6_ports-whole, least_extension, extension_length-append, is_later_fragment-append}

passed : (left next_header : ℕ) (header bytes : List ℕ) → IsExtension next_header header
    → ports_behind (suc left) next_header (header ++ bytes) ≡ ports_behind left (get_or header 0 0) bytes
passed left next_header header bytes e =
    let least : 8 ≤ length header = omega (arith, e.whole, least_extension next_header header) in
    let same : extension_length next_header (header ++ bytes) ≡ length header =
    extension_length-append next_header header bytes (omega arith) ∙ sym e.whole in
    let first = is_later_fragment-append next_header header bytes (omega arith) ∙ e.first in
    let within : extension_length next_header (header ++ bytes) ≤ length (header ++ bytes) =
    omega (arith, length-append header bytes) in
    ports_behind-passed (suc left) left next_header (header ++ bytes) refl e.known within first
    ∙ grind (arith, common_steps)

ports_behind-chain : (left next_header protocol : ℕ) (headers : List (List ℕ)) (payload : List ℕ)
    → length headers ≤ left → IsChain next_header headers protocol → is_extension protocol ≡ false
    → ports_behind left next_header (concat headers ++ payload) ≡ transport_ports protocol payload
ports_behind-chain left next_header protocol [] payload few same end =
    ap (λ n. ports_behind left n payload) same ∙ ports_behind-other left protocol payload end
ports_behind-chain zero next_header protocol (header ∷ headers) payload few chain end = absurd (omega arith)
ports_behind-chain (suc left) next_header protocol (header ∷ headers) payload few chain end =
    rw append_assoc (
    passed left next_header header (concat headers ++ payload) chain.0
    ∙ ports_behind-chain left (get_or header 0 0) protocol headers payload (omega arith) chain.1 end
    )

behind_header : (size : ℕ) (header bytes : List ℕ) → 6 < size → length header ≡ size
    → ports_behind 6 (get_or (header ++ bytes) 6 0) (drop size (header ++ bytes))
    ≡ ports_behind 6 (get_or header 6 0) bytes
behind_header size header bytes long whole = grind (arith, common_steps)

pub ipv6_ports-chain : (header : List ℕ) (extensions : List (List ℕ)) (protocol : ℕ) (payload : List ℕ)
    → length header ≡ 40 → length extensions ≤ 6 → IsChain (get_or header 6 0) extensions protocol
    → IsFalse (is_extension protocol)
    → ipv6_ports (header ++ concat extensions ++ payload) ≡ transport_ports protocol payload
ipv6_ports-chain header extensions protocol payload forty few chain end =
    let bytes = concat extensions ++ payload in
    let long : 40 ≤ length (header ++ bytes) = omega (arith, length-append header bytes) in
    rw append_assoc (
    ipv6_ports-whole (header ++ bytes) long
    ∙ behind_header 40 header bytes (omega arith) forty
    ∙ ports_behind-chain 6 (get_or header 6 0) protocol extensions payload few chain end
    )
