use Rattle.std.specs.Prelude.{ℕ, zero, suc, ◌+◌, ◌*◌, List, slice_index}

-- The number that so many bytes from a place on spell, the most significant first: network byte order (RFC 791,
-- appendix B).
unfoldable pub number_at : List ℕ → ℕ → ℕ → ℕ
number_at bytes place zero = 0
number_at bytes place (suc size) = number_at bytes place size * 256 + slice_index bytes (place + size)
