-- How an object is put into a library.
use Rattle.std.specs.Prelude.{◌≡◌, ℕ, Bool, true, List, [], ◌∷◌, ◌++◌, IsTrue, ⊤}
use Rattle.xdp_state.specs.declared.library.Library.{Library}
use Rattle.xdp_state.specs.declared.library.Loaded.{Loaded}
use Rattle.xdp_state.specs.declared.library.ObjectRow.{ObjectRow}
use Rattle.xdp_tool.specs.Outcome.{IsLoaded, is_small}
use Rattle.xdp_tool.specs.declared.ending.Ending.{Ending}
use Rattle.xdp_tool.specs.declared.ending.Ending.TheVariants.{Fault, OutOfMemory, Limit}
use Rattle.xdp_tool.specs.declared.ending.LimitName.TheVariants as limit

-- the new library has one object more, which is what these bytes give and nothing else does
pub record IsObjectOf (bytes name : List ℕ) (old new : Library) : Type 0 where
  pub object : ObjectRow
  pub added : new ≡ record old { objects = old.objects ++ object ∷ [] }
  pub name_is : object.name ≡ name
  pub loaded : IsLoaded bytes object.loaded
  pub only : (loaded : Loaded) → IsLoaded bytes loaded → object.loaded ≡ loaded

-- the same of the content of a file that tells it, which is small enough
pub record IsObject (tells : Bool) (content : List ℕ → List ℕ) (name : List ℕ) (old new : Library) : Type 0 where
  pub bytes : List ℕ
  pub is : IsObjectOf bytes name old new
  pub content_is : IsTrue tells → content name ≡ bytes
  pub small : IsTrue tells → is_small content name ≡ true

-- why an object isn't read
abbrev pub IsLoadEnd : Ending → Type 0
IsLoadEnd Fault = ⊤
IsLoadEnd OutOfMemory = ⊤
IsLoadEnd (Limit limit.Object) = ⊤
IsLoadEnd _ = ⊥
