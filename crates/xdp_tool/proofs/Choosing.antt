-- The counts that become choices.
use Rattle.std.proofs.Common.{◌≡◌, ℕ, List, [], ◌∷◌, ◌++◌, refl, ap, ◌∙◌}
use Rattle.xdp_tool.specs.Ran.{last_counts}

last-of : (choices : List (List (List ℕ))) (counts : List (List ℕ)) → last_counts (choices ++ counts ∷ []) ≡ counts
last-of [] counts = refl
last-of (c ∷ []) counts = refl
last-of (c ∷ d ∷ choices) counts = last-of (d ∷ choices) counts

pub last-pushed : (choices now : List (List (List ℕ))) (counts : List (List ℕ)) → now ≡ choices ++ counts ∷ [] → last_counts now ≡ counts
last-pushed choices now counts is = ap last_counts is ∙ last-of choices counts
