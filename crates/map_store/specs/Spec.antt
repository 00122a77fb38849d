-- The rules 5 to 8 of a map's spec.
use Rattle.std.specs.Prelude.{ℕ, ◌+◌, ◌*◌, ◌/◌, Bool, false, not, ◌&&◌, ◌==◌, nat_le, List, [], ◌∷◌, find, Option}
use Rattle.std.specs.Option.{option_map}
use Rattle.map_store.specs.declared.spec.MapKind.{MapKind}
use Rattle.map_store.specs.declared.spec.MapKind.TheVariants.{Hash, Array, PercpuHash, PercpuArray}
use Rattle.map_store.specs.declared.spec.MapSpec.{MapSpec}

abbrev pub is_between : ℕ → ℕ → ℕ → Bool
is_between least most n = nat_le least n && nat_le n most

-- an index of 4 bytes, or a key of 1 to 512
abbrev pub has_key_size : MapKind → ℕ → Bool
has_key_size Array size = size == 4
has_key_size PercpuArray size = size == 4
has_key_size Hash size = is_between 1 512 size
has_key_size PercpuHash size = is_between 1 512 size

-- each rule with its test. Rule 5, a kind of map that is known, holds of every spec
abbrev pub rules : MapSpec → List (ℕ × Bool)
rules spec =
    (5, false)
    ∷ (6, not (has_key_size spec.kind spec.key_size))
    ∷ (7, not (is_between 1 65536 spec.value_size))
    ∷ (8, not (is_between 1 1048576 spec.max_entries))
    ∷ []

-- the first rule that the spec breaks
unfoldable pub spec_rule : MapSpec → Option ℕ
spec_rule spec = option_map (λ rule. rule.0) (find (λ rule. rule.1) (rules spec))

-- a size rounded up to a multiple of 8
unfoldable pub rounded : ℕ → ℕ
rounded size = (size + 7) / 8 * 8

-- how many bytes a slot takes: its key and its rounded value
abbrev pub slot_size : MapSpec → ℕ
slot_size spec = spec.key_size + rounded spec.value_size
