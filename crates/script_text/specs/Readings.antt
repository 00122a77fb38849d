-- Readings of a line and its parts: a value, or the number of the least rule that is broken.
use Rattle.std.specs.Prelude.{◌≡◌, ℕ, min, Bool, true, false, Option, Some, None, Result, Ok, Err, ⊤}
use Rattle.std.specs.Option.{unwrap_or}
use Rattle.script_text.specs.declared.reading.LineEnd.{LineEnd}
use Rattle.script_text.specs.declared.reading.LineEnd.TheVariants.{BadLine, OutOfMemory}

-- a reading that goes on from what was read
infixl 10 ◌>>=◌
abbrev pub ◌>>=◌ : {A B E : Type 0} → Result A E → (A → Result B E) → Result B E
Ok x >>= f = f x
Err e >>= f = Err e

-- both readings, or the least rule that one of them breaks
abbrev pub both : {A B : Type 0} → Result A ℕ → Result B ℕ → Result (A × B) ℕ
both (Ok a) (Ok b) = Ok (a, b)
both (Ok a) (Err rule) = Err rule
both (Err rule) (Ok b) = Err rule
both (Err rule) (Err other) = Err (min rule other)

-- the rule, kept where the test holds
abbrev pub keeps : ℕ → Bool → Result (Unit {0}) ℕ
keeps rule true = Ok tt
keeps rule false = Err rule

-- what was found, or else the rule that is broken
abbrev pub found : {A : Type 0} → ℕ → Option A → Result A ℕ
found rule (Some x) = Ok x
found rule None = Err rule

-- what an option gives, or what holds without it
abbrev pub or_else : {A : Type 0} → Option (Result A ℕ) → A → Result A ℕ
or_else given default = unwrap_or given (Ok default)

-- what an option gives that may be absent
abbrev pub if_given : {A : Type 0} → Option (Result A ℕ) → Result (Option A) ℕ
if_given None = Ok None
if_given (Some (Ok value)) = Ok (Some value)
if_given (Some (Err rule)) = Err rule

-- The answer is the reading that is wanted; only want of memory is free.
abbrev pub Reads : {A : Type 0} → Result A LineEnd → Result A ℕ → Type 0
Reads (Ok x) wanted = wanted ≡ Ok x
Reads (Err (BadLine rule)) wanted = wanted ≡ Err rule
Reads (Err OutOfMemory) wanted = ⊤

-- The same of a call that puts what was read in the place of what was there.
abbrev pub Leads : {A : Type 0} → Result (Unit {0}) LineEnd → A → Result A ℕ → Type 0
Leads (Ok tt) now wanted = wanted ≡ Ok now
Leads (Err (BadLine rule)) now wanted = wanted ≡ Err rule
Leads (Err OutOfMemory) now wanted = ⊤
