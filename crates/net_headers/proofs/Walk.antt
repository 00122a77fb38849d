-- The walk over the extension headers of IPv6: its steps, and its end.
use Rattle.std.proofs.Common.{◌≡◌, ℕ, zero, suc, ◌<◌, ◌≤◌, List, ◌++◌, length, drop, true, false, get_or, arith}
use Rattle.std.proofs.lemmas.Grind.{common_steps}
use Rattle.std.proofs.lemmas.List.{take_rest}
use Rattle.net_headers.specs.declared.fields.Ports.TheVariants.{Absent, Cut}
use Rattle.net_headers.specs.Transport.{transport_ports}
use Rattle.net_headers.specs.Ipv6.{is_extension, extension_length, is_later_fragment, ports_behind, ipv6_ports}
use Rattle.net_headers.proofs.Numbers.{number_at-append}

-- no more extension headers are passed
pub ports_behind-none : (left next_header : ℕ) (bytes : List ℕ) → left ≡ 0
    → ports_behind left next_header bytes ≡ transport_ports next_header bytes
unfolding ports_behind
ports_behind-none zero next_header bytes none = grind arith
ports_behind-none (suc left) next_header bytes none = grind arith

-- what stands here is no extension header
pub ports_behind-other : (left next_header : ℕ) (bytes : List ℕ) → is_extension next_header ≡ false
    → ports_behind left next_header bytes ≡ transport_ports next_header bytes
unfolding ports_behind
ports_behind-other zero next_header bytes other = grind arith
ports_behind-other (suc left) next_header bytes other = grind arith

-- one that isn't whole
pub ports_behind-cut : (left next_header : ℕ) (bytes : List ℕ) → 0 < left → is_extension next_header ≡ true
    → length bytes < extension_length next_header bytes
    → ports_behind left next_header bytes ≡ Cut
unfolding ports_behind
ports_behind-cut zero next_header bytes some extension cut = grind arith
ports_behind-cut (suc left) next_header bytes some extension cut = grind arith

-- one of a later fragment
pub ports_behind-later : (left next_header : ℕ) (bytes : List ℕ) → 0 < left → is_extension next_header ≡ true
    → extension_length next_header bytes ≤ length bytes → is_later_fragment next_header bytes ≡ true
    → ports_behind left next_header bytes ≡ Absent
unfolding ports_behind
ports_behind-later zero next_header bytes some extension whole later = grind arith
ports_behind-later (suc left) next_header bytes some extension whole later = grind arith

-- one that is passed
pub ports_behind-passed : (left after next_header : ℕ) (bytes : List ℕ) → left ≡ suc after
    → is_extension next_header ≡ true
    → extension_length next_header bytes ≤ length bytes → is_later_fragment next_header bytes ≡ false
    → ports_behind left next_header bytes
    ≡ ports_behind after (get_or bytes 0 0) (drop (extension_length next_header bytes) bytes)
unfolding ports_behind
ports_behind-passed zero after next_header bytes more extension whole first = grind arith
ports_behind-passed (suc left) after next_header bytes more extension whole first = grind arith

pub ruleset walk = (
  take_rest,
  ports_behind-none,
  ports_behind-other,
  ports_behind-cut,
  ports_behind-later,
  ports_behind-passed,
)

-- a whole IPv6 header
pub ipv6_ports-whole : (packet : List ℕ) → 40 ≤ length packet
    → ipv6_ports packet ≡ ports_behind 6 (get_or packet 6 0) (drop 40 packet)
unfolding ipv6_ports
ipv6_ports-whole packet whole = grind arith

-- an extension header has its length in its first 8 bytes
pub least_extension : (next_header : ℕ) (header : List ℕ) → 8 ≤ extension_length next_header header
unfolding extension_length
least_extension next_header header = grind arith

pub extension_length-append : (next_header : ℕ) (header more : List ℕ) → 2 ≤ length header
    → extension_length next_header (header ++ more) ≡ extension_length next_header header
unfolding extension_length
extension_length-append next_header header more long = grind (arith, common_steps)

pub is_later_fragment-append : (next_header : ℕ) (header more : List ℕ) → 4 ≤ length header
    → is_later_fragment next_header (header ++ more) ≡ is_later_fragment next_header header
unfolding is_later_fragment
is_later_fragment-append next_header header more long = grind (arith, number_at-append)
