-- What a run asks of the files: what it reads, makes and changes.
use Rattle.std.specs.Prelude.{◌≡◌, ℕ, ◌+◌, ◌<◌, Bool, true, not, nat_eq, List, [], ◌∷◌, ◌++◌, length, take, Option, Some, None, Result, OnOk, ⊤}
use Rattle.std.specs.Cmp.Lexicographic.{pointwise}
use Rattle.xio.specs.Told.{Told}

abbrev pub AppendsNames : List (List ℕ) → List (List ℕ) → List (List ℕ) → Type 0
AppendsNames old new names = (n : ℕ) × (new ≡ old ++ take n names)

-- the calls of `make_file` for the file that is wanted
abbrev pub calls_for : Option (List ℕ) → List (List ℕ)
calls_for None = []
calls_for (Some name) = name ∷ []

-- is this another name than that of the file that may be made?
abbrev pub is_other : Option (List ℕ) → List ℕ → Bool
is_other None name = true
is_other (Some made) name = not (pointwise nat_eq name made)

-- Only the front of these names was asked for; at most this file was made, by one call, and no other one changed.
pub record Touches (old new : Told) (names : List (List ℕ)) (wanted : Option (List ℕ)) : Type 0 where
  pub asked : AppendsNames old.asked new.asked names
  pub made : AppendsNames old.made new.made (calls_for wanted)
  pub content : (name : List ℕ) → is_other wanted name ≡ true → new.content name ≡ old.content name
  pub flushed : (name : List ℕ) → is_other wanted name ≡ true → new.flushed name ≡ old.flushed name

-- by call, from the one of this number on: the files of these names were taken to their ends
abbrev pub AreTaken : (List ℕ → List ℕ) → (ℕ → ℕ) → ℕ → List (List ℕ) → Type 0
AreTaken content places call [] = ⊤
AreTaken content places call (name ∷ names) = (places call ≡ length (content name)) × AreTaken content places (call + 1) names

-- each of the files was opened by one call, in this order, and taken to its end
pub record TakesWhole (old new : Told) (names : List (List ℕ)) : Type 0 where
  pub asked : new.asked ≡ old.asked ++ names
  pub whole : AreTaken old.content new.places (length old.asked) names

-- the same, and no read failed
pub record IsReadWhole {S : Type 0} (told : S → Told) (faults : S → ℕ) (old new : S) (names : List (List ℕ)) : Type 0 where
  pub taken : TakesWhole (told old) (told new) names
  pub no_fault : faults new ≡ faults old

-- no file was made, and none changed
pub record IsUnmade (old new : Told) : Type 0 where
  pub made : new.made ≡ old.made
  pub content : new.content ≡ old.content
  pub flushed : new.flushed ≡ old.flushed

-- nothing but these files was read, in this order, to their ends where something came of them, and none was made or changed
pub record Reads {A E : Type 0} (old new : Told) (names : List (List ℕ)) (result : Result A E) : Type 0 where
  pub asked : AppendsNames old.asked new.asked names
  pub whole : OnOk result (TakesWhole old new names)
  pub unmade : IsUnmade old new
  -- calls before these stay as they were
  pub earlier : (call : ℕ) → call < length old.asked → new.places call ≡ old.places call

-- no file was read; at most this one was made, by one call, and no other one changed
pub record Makes (old new : Told) (wanted : Option (List ℕ)) : Type 0 where
  pub asked : new.asked ≡ old.asked
  pub places : new.places ≡ old.places
  pub made : AppendsNames old.made new.made (calls_for wanted)
  pub content : (name : List ℕ) → is_other wanted name ≡ true → new.content name ≡ old.content name
  pub flushed : (name : List ℕ) → is_other wanted name ≡ true → new.flushed name ≡ old.flushed name
