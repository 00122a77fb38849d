-- How readings go on from one another. A reading says of each answer whether it is its own: a value, or a refusal.
use Rattle.std.specs.Prelude.{◌≡◌, ℕ, List, take, slice_get, Option, Some, None, Result, Ok, Err, ⊤}
use Rattle.run_config.specs.Values.{Paired}
use Rattle.object_load.specs.declared.refusal.LoadRefusal.{LoadRefusal}
use Rattle.object_load.specs.declared.refusal.LoadEnd.{LoadEnd}
use Rattle.object_load.specs.declared.refusal.LoadEnd.TheVariants.{Refused, OutOfMemory}
use Rattle.object_load.specs.declared.refusal.SlotEnd.{SlotEnd}
use Rattle.object_load.specs.declared.refusal.SlotEnd.TheVariants as slots

-- the reading that a function gives
abbrev pub Is : {A : Type 0} → Result A LoadRefusal → Result A LoadRefusal → Type 0
Is said answer = answer ≡ said

-- one reading, and another that goes on from its value; a refusal of the first is that of both
pub data Then {A B : Type 0} (before : Result A LoadRefusal → Type 0) (next : A → Result B LoadRefusal → Type 0) : Result B LoadRefusal → Type 0 where
  stops : {refusal : LoadRefusal} → before (Err refusal) → Then before next (Err refusal)
  goes_on : {value : A} {answer : Result B LoadRefusal} → before (Ok value) → next value answer → Then before next answer

-- what each item of a list gives, or else why the first one that gives nothing is refused, by its place
pub data Each {A B E : Type 0} (gives : A → Result B E → Type 0) (refusal : ℕ → E → LoadRefusal) (items : List A) : Result (List B) LoadRefusal → Type 0 where
  every : {given : List B} → Paired (λ item one. gives item (Ok one)) items given → Each gives refusal items (Ok given)
  refused : (place : ℕ) (item : A) (why : E) (given : List B) → Paired (λ item one. gives item (Ok one)) (take place items) given
      → slice_get items place ≡ Some item → gives item (Err why) → Each gives refusal items (Err (refusal place why))

-- a call gives what a reading says, unless it wants memory
abbrev pub Answers : {A : Type 0} → (Result A LoadRefusal → Type 0) → Result A LoadEnd → Type 0
Answers reading (Ok value) = reading (Ok value)
Answers reading (Err (Refused refusal)) = reading (Err refusal)
Answers reading (Err OutOfMemory) = ⊤

-- the same of a call whose refusal is a slot
abbrev pub AnswersAt : {A : Type 0} → (Result A ℕ → Type 0) → Result A SlotEnd → Type 0
AnswersAt reading (Ok value) = reading (Ok value)
AnswersAt reading (Err (slots.Bad slot)) = reading (Err slot)
AnswersAt reading (Err slots.OutOfMemory) = ⊤

-- a call gave this answer, unless it wanted memory
abbrev pub Gives : {A : Type 0} → Result A LoadEnd → Result A LoadRefusal → Type 0
Gives (Ok value) answer = answer ≡ Ok value
Gives (Err (Refused refusal)) answer = answer ≡ Err refusal
Gives (Err OutOfMemory) answer = ⊤

-- a refusal, or else this answer
abbrev pub refuse : {A E : Type 0} → Option E → Result A E → Result A E
refuse None answer = answer
refuse (Some refusal) answer = Err refusal

-- what follows from a value
abbrev pub and_then : {A B E : Type 0} → Result A E → (A → Result B E) → Result B E
and_then (Ok value) next = next value
and_then (Err refusal) next = Err refusal
