use Rattle.std.specs.Prelude.{◌≡◌, ℕ, ◌+◌, ◌*◌, ◌==◌, ◌&&◌, ◌||◌, Bool, IsTrue, List, length, drop, nat_le, nat_lt, if◌then◌else◌}
use Rattle.net_headers.specs.Bytes.{number_at}

-- The types of a VLAN tag (IEEE 802.1Q, clause 9): 0x8100 is a customer's, 0x88A8 a service provider's.
unfoldable pub is_tag : ℕ → Bool
is_tag ether_type = ether_type == 0x8100 || ether_type == 0x88A8

-- Where the type stands behind so many tags: the first is behind two addresses of 6 bytes (IEEE 802.3 §3.2), and each
-- tag puts 4 bytes in front of the next.
abbrev pub type_place : ℕ → ℕ
type_place tags = 12 + 4 * tags

-- Behind so many tags stands another, with the type behind it.
unfoldable pub has_tag : List ℕ → ℕ → Bool
has_tag frame tags =
    is_tag (number_at frame (type_place tags) 2) && nat_le (type_place (tags + 1) + 2) (length frame)

-- how many tags are passed: two at most
unfoldable pub tag_count : List ℕ → ℕ
tag_count frame =
    if has_tag frame 0 then (if has_tag frame 1 then 2 else 1)
    else 0

-- the type behind the tags: the last one that is read
unfoldable pub ether_type_of : List ℕ → ℕ
ether_type_of frame = number_at frame (type_place (tag_count frame)) 2

-- A tag that would be passed isn't whole.
unfoldable pub has_cut_tag : List ℕ → Bool
has_cut_tag frame = is_tag (ether_type_of frame) && nat_lt (tag_count frame) 2

-- what stands behind the type
unfoldable pub packet_of : List ℕ → List ℕ
packet_of frame = drop (type_place (tag_count frame) + 2) frame

-- one whole tag: its type, and two bytes of control information
pub record IsTag (tag : List ℕ) : Type 0 where
  pub size : length tag ≡ 4
  pub tagged : IsTrue (is_tag (number_at tag 0 2))
