-- How calls that answer readings follow one another.
use Rattle.std.proofs.Common.{Result, Ok, Err}
use Rattle.object_load.specs.declared.refusal.LoadRefusal.{LoadRefusal}
use Rattle.object_load.specs.declared.refusal.LoadEnd.{LoadEnd}
use Rattle.object_load.specs.declared.refusal.LoadEnd.TheVariants.{Refused, OutOfMemory}
use Rattle.object_load.specs.Reading.{Answers, Then, stops, goes_on}

-- a first call that ends the whole
pub then_ends : {A B : Type 0} (first : Result A LoadRefusal → Type 0) (next : A → Result B LoadRefusal → Type 0) (end : LoadEnd) → Answers first (Err end) → Answers (Then first next) (Err end)
then_ends first next (Refused refusal) answers = stops answers
then_ends first next OutOfMemory answers = tt

-- a first call that gave a value, and one that goes on from it
pub then_goes_on : {A B : Type 0} (first : Result A LoadRefusal → Type 0) (next : A → Result B LoadRefusal → Type 0) (value : A) (result : Result B LoadEnd) → Answers first (Ok value) → Answers (next value) result → Answers (Then first next) result
then_goes_on first next value (Ok given) before answers = goes_on before answers
then_goes_on first next value (Err (Refused refusal)) before answers = goes_on before answers
then_goes_on first next value (Err OutOfMemory) before answers = tt
