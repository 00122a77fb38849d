-- The objects that a script names, each once, in the order of their first lines.
use Rattle.std.specs.Prelude.{ℕ, ◌==◌, List, [], ◌∷◌, ◌++◌, length, position, Option, Some, None, unwrap_or, if◌then◌else◌}
use Rattle.std.specs.Str.{bytes_eq}

-- the place of a name, which is behind the others where it isn't there yet
abbrev pub object_place : List (List ℕ) → List ℕ → ℕ
object_place objects name = unwrap_or (position (λ object. bytes_eq object name) objects) (length objects)

-- with a name, where there is one and it isn't there yet
abbrev pub objects_with : List (List ℕ) → Option (List ℕ) → List (List ℕ)
objects_with objects None = objects
objects_with objects (Some name) =
    if object_place objects name == length objects then objects ++ name ∷ [] else objects
