use Rattle.std.specs.Prelude.{ℕ, ◌-◌, ◌^◌, min}

-- a sum above the last value of its type stands as that value
abbrev pub capped : ℕ → ℕ
capped n = min n (2 ^ 64 - 1)
