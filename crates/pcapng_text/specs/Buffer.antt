-- What is left where a source fails, or memory is wanting, before all bytes that were asked for have come.
use Rattle.std.specs.Prelude.{◌≡◌, ◌≢◌, ℕ, ◌<◌, ◌≤◌, List, ◌++◌, length, Result, Ok, Err}
use Rattle.xio.specs.Causes.{Rose}
use Rattle.pcapng_text.specs.declared.stop.Stop.{Stop}
use Rattle.pcapng_text.specs.declared.stop.Stop.TheVariants.{Failed, OutOfMemory}

-- the front of the rest was taken
pub record TakesFront (rest rest' : List ℕ) : Type 0 where
  pub taken : List ℕ
  pub left : rest ≡ taken ++ rest'

-- at a fault all bytes that came are kept, fewer than were asked for
abbrev pub StopsShort : ℕ → List ℕ → List ℕ → List ℕ → List ℕ → Result Unit Stop → Type 0
StopsShort size old new rest rest' (Ok _) = Unit {0}
StopsShort size old new rest rest' (Err Failed) = (length new < size) × (old ++ rest ≡ new ++ rest')
StopsShort size old new rest rest' (Err OutOfMemory) = TakesFront rest rest'

-- a count of faults never falls; it rises in a call that fails and in no other
pub record HasStopCause (before now : ℕ) (result : Result Unit Stop) : Type 0 where
  pub later : before ≤ now
  pub failed : result ≡ Err Failed → Rose before now
  pub same : result ≢ Err Failed → now ≡ before
