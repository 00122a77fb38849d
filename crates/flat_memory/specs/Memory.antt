-- Memory is a function from addresses to bytes, with None where there is no byte.
use Rattle.std.specs.Prelude.{ℕ, zero, suc, ◌+◌, ◌-◌, ◌*◌, Bool, ◌&&◌, nat_le, nat_lt, if◌then◌else◌, List, [], ◌∷◌, slice_get, Option, None, unwrap_or}
use Rattle.std.specs.Option.{option_or}

abbrev pub Memory : Type 0
Memory = ℕ → Option ℕ

-- of the bytes from an address on, those whose place passes the mask
unfoldable pub masked : ℕ → (ℕ → Bool) → List ℕ → Memory
masked start mask bytes a = if nat_le start a && mask (a - start) then slice_get bytes (a - start) else None

-- all bytes from an address on
unfoldable pub block : ℕ → List ℕ → Memory
block start bytes a = if nat_le start a then slice_get bytes (a - start) else None

-- the upper memory, and the lower one where the upper one has no byte
unfoldable pub overlaid : Memory → Memory → Memory
overlaid upper lower a = option_or (upper a) (lower a)

-- the memory with bytes written from an address on
unfoldable pub written : Memory → ℕ → List ℕ → Memory
written memory start bytes a = option_or (block start bytes a) (memory a)

-- the memory with no byte in this range
unfoldable pub without : Memory → ℕ → ℕ → Memory
without memory start size a = if nat_le start a && nat_lt a (start + size) then None else memory a

-- the number in the n bytes from an address on, the lowest first; a byte that isn't there counts as 0
unfoldable pub number_at : Memory → ℕ → ℕ → ℕ
number_at memory a zero = 0
number_at memory a (suc n) = unwrap_or (memory a) 0 + 256 * number_at memory (suc a) n

-- the n bytes from an address on; a byte that isn't there counts as 0
unfoldable pub bytes_at : Memory → ℕ → ℕ → List ℕ
bytes_at memory a zero = []
bytes_at memory a (suc n) = unwrap_or (memory a) 0 ∷ bytes_at memory (suc a) n
