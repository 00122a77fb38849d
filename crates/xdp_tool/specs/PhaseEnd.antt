-- What the end of a phase leaves in choices and sinks.
use Rattle.std.specs.Prelude.{◌≡◌, ℕ, List, [], ◌∷◌, ◌++◌, Result, Ok, Err, ⊤}
use Rattle.xio.specs.Prefixes.{AppendsPrefix}
use Rattle.xdp_tool.specs.declared.perform.Stop.{Stop}
use Rattle.xdp_tool.specs.declared.perform.Stop.TheVariants.{Fault, OutOfMemory, Differs}

-- the text stands whole, or its front where there was a fault; where memory was wanting or the trace differs nothing was written
abbrev pub EndsText : Result Unit Stop → List ℕ → List ℕ → List ℕ → Type 0
EndsText (Ok _) old new text = new ≡ old ++ text
EndsText (Err Fault) old new text = AppendsPrefix old new text
EndsText (Err OutOfMemory) old new text = new ≡ old
EndsText (Err (Differs line)) old new text = new ≡ old

-- the phase's counts are the last choices, unless memory was wanting or the trace differs
abbrev pub EndsChoices : Result Unit Stop → List (List (List ℕ)) → List (List (List ℕ)) → List (List ℕ) → Type 0
EndsChoices (Err OutOfMemory) old new counts = new ≡ old
EndsChoices (Err (Differs line)) old new counts = new ≡ old
EndsChoices _ old new counts = new ≡ old ++ counts ∷ []

-- so far as they are choices
abbrev pub OnChosen : Result Unit Stop → Type 0 → Type 0
OnChosen (Err OutOfMemory) P = ⊤
OnChosen (Err (Differs line)) P = ⊤
OnChosen _ P = P

-- the text stands whole at `Ok`, and otherwise its front
abbrev pub PutsText : {A E : Type 0} → Result A E → List ℕ → List ℕ → List ℕ → Type 0
PutsText (Ok _) old new text = new ≡ old ++ text
PutsText (Err _) old new text = AppendsPrefix old new text

-- the run came to an end that its script and its trace have
abbrev pub OnEnded : {A : Type 0} → Result A Stop → Type 0 → Type 0
OnEnded (Ok _) P = P
OnEnded (Err (Differs line)) P = P
OnEnded (Err _) P = ⊤

-- then the text stands whole, and otherwise its front
abbrev pub StopsText : {A : Type 0} → Result A Stop → List ℕ → List ℕ → List ℕ → Type 0
StopsText (Ok _) old new text = new ≡ old ++ text
StopsText (Err (Differs line)) old new text = new ≡ old ++ text
StopsText (Err _) old new text = AppendsPrefix old new text
