-- The fields of a file: numbers at byte places, the least byte first. A byte past the end counts as 0.
use Rattle.std.specs.Prelude.{ℕ, List, drop}
use Rattle.byteorder.specs.Endian.{little_number}

unfoldable pub u16_at : List ℕ → ℕ → ℕ
u16_at file place = little_number 2 (drop place file)

unfoldable pub u32_at : List ℕ → ℕ → ℕ
u32_at file place = little_number 4 (drop place file)

unfoldable pub u64_at : List ℕ → ℕ → ℕ
u64_at file place = little_number 8 (drop place file)
