-- What the header's rules say.
use Rattle.std.proofs.Common.{◌≡◌, ℕ, ◌<◌, true, List, length}
use Rattle.std.proofs.lemmas.Bool.{and_parts, ltb-true}
use Rattle.btf_types.specs.Breaks.{are_bounded}

-- bounded strings aren't empty
pub some_string : (strings : List ℕ) → are_bounded strings ≡ true → 0 < length strings
unfolding are_bounded
some_string strings h = ltb-true _ _ (and_parts _ _ (and_parts _ _ h).0).0
