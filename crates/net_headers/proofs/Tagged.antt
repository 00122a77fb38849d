-- One more VLAN tag in front of the type changes no field.
use Rattle.std.proofs.Common.{◌≡◌, ℕ, ◌+◌, ◌<◌, ◌≤◌, List, ◌++◌, length, drop, true, false, arith, length-append, IsFalse}
use Rattle.std.proofs.lemmas.Grind.{common_steps}
use Rattle.net_headers.specs.Bytes.{number_at}
use Rattle.net_headers.specs.Ethernet.{is_tag, type_place, has_tag, tag_count, ether_type_of, has_cut_tag, packet_of, IsTag}
use Rattle.net_headers.specs.Headers.{net_of, ports_of, headers_of}
use Rattle.net_headers.proofs.Numbers.{number_at-append, number_at-behind, drop-behind}

-- the frame behind a tag has room for it: it has at most one, a whole one
record IsFree (plain : List ℕ) : Type 0 where
  long : 14 ≤ length plain
  fewer : tag_count plain < 2
  whole : has_cut_tag plain ≡ false

-- What stood behind the addresses stands behind a tag, 4 bytes further on.
record IsTagged (plain tagged : List ℕ) : Type 0 where
  size : length tagged ≡ length plain + 4
  first : is_tag (number_at tagged 12 2) ≡ true
  addresses : (place : ℕ) → place + 6 ≤ 12 → number_at tagged place 6 ≡ number_at plain place 6
  types : (tags : ℕ) → number_at tagged (type_place (tags + 1)) 2 ≡ number_at plain (type_place tags) 2
  packets : (tags : ℕ) → drop (type_place (tags + 1) + 2) tagged ≡ drop (type_place tags + 2) plain

first_type : (addresses tag rest : List ℕ) → length addresses ≡ 12 → length tag ≡ 4
    → number_at (addresses ++ tag ++ rest) 12 2 ≡ number_at tag 0 2
first_type addresses tag rest twelve four = grind (arith, common_steps, number_at-append, number_at-behind)

is_tagged : (addresses tag rest : List ℕ) → length addresses ≡ 12 → IsTag tag
    → IsTagged (addresses ++ rest) (addresses ++ tag ++ rest)
is_tagged addresses tag rest twelve whole = record {
  size = grind (arith, common_steps, whole.size);
  first = rw (first_type addresses tag rest twelve whole.size) whole.tagged;
  addresses = λ place within. grind (arith, common_steps, number_at-append);
  types = λ tags. grind (arith, common_steps, number_at-behind, whole.size);
  packets = λ tags. grind (arith, common_steps, drop-behind, whole.size);
}

has_tag_moved : (plain tagged : List ℕ) → IsTagged plain tagged → (tags : ℕ)
    → has_tag tagged (tags + 1) ≡ has_tag plain tags
unfolding has_tag
has_tag_moved plain tagged one tags = grind (arith, one.size, one.types)

has_tag_first : (plain tagged : List ℕ) → IsTagged plain tagged → IsFree plain → has_tag tagged 0 ≡ true
unfolding has_tag
has_tag_first plain tagged one free = grind (arith, one.size, one.first)

tag_count_moved : (plain tagged : List ℕ) → IsTagged plain tagged → IsFree plain
    → tag_count tagged ≡ tag_count plain + 1
unfolding tag_count
tag_count_moved plain tagged one free =
    let first = has_tag_first plain tagged one free in
    let second = has_tag_moved plain tagged one 0 in
    let fewer = free.fewer in
    grind arith

ether_type_moved : (plain tagged : List ℕ) → IsTagged plain tagged → IsFree plain
    → ether_type_of tagged ≡ ether_type_of plain
unfolding ether_type_of
ether_type_moved plain tagged one free = rw (tag_count_moved plain tagged one free) (one.types (tag_count plain))

packet_moved : (plain tagged : List ℕ) → IsTagged plain tagged → IsFree plain → packet_of tagged ≡ packet_of plain
unfolding packet_of
packet_moved plain tagged one free = rw (tag_count_moved plain tagged one free) (one.packets (tag_count plain))

cut_tag_moved : (plain tagged : List ℕ) → IsTagged plain tagged → IsFree plain → has_cut_tag tagged ≡ false
unfolding has_cut_tag
cut_tag_moved plain tagged one free =
    let same = ether_type_moved plain tagged one free in
    let fewer = free.fewer in
    let whole = free.whole in
    grind arith

headers_moved : (plain tagged : List ℕ) → IsTagged plain tagged → IsFree plain → headers_of tagged ≡ headers_of plain
unfolding headers_of net_of ports_of
headers_moved plain tagged one free =
    rw (
      one.addresses 6 (omega arith),
      one.addresses 0 (omega arith),
      ether_type_moved plain tagged one free,
      packet_moved plain tagged one free,
      cut_tag_moved plain tagged one free,
      free.whole,
    )

pub headers_of_tagged : (addresses tag rest : List ℕ) → length addresses ≡ 12 → IsTag tag → 2 ≤ length rest
    → tag_count (addresses ++ rest) < 2 → IsFalse (has_cut_tag (addresses ++ rest))
    → headers_of (addresses ++ tag ++ rest) ≡ headers_of (addresses ++ rest)
headers_of_tagged addresses tag rest twelve tagged long fewer whole =
    let free : IsFree (addresses ++ rest) = record {
      long = omega (arith, length-append addresses rest);
      fewer = fewer;
      whole = whole;
    } in
    headers_moved (addresses ++ rest) (addresses ++ tag ++ rest) (is_tagged addresses tag rest twelve tagged) free
