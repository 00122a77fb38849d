-- Values by name, as the members of a structure give them.
use Rattle.std.specs.Prelude.{ℕ, List, [], ◌∷◌, Option, find, reverse}
use Rattle.std.specs.Option.{option_map}
use Rattle.std.specs.Str.{bytes_eq}

pub record Named : Type 0 where
  pub name : List ℕ
  pub value : ℕ

-- the value of the last of a name
unfoldable pub last_value : List ℕ → List Named → Option ℕ
last_value name values = option_map (λ one. one.value) (find (λ one. bytes_eq one.name name) (reverse values))

-- two lists as long as each other, of which each two at a place are so related
pub data Paired {A B : Type 0} (R : A → B → Type 0) : List A → List B → Type 0 where
  none : Paired R [] []
  more : {a : A} {b : B} {left : List A} {right : List B} → R a b → Paired R left right → Paired R (a ∷ left) (b ∷ right)
