-- What a printer shows of itself, and what printing a text leaves of it.
use Rattle.std.specs.Prelude.{◌≡◌, ℕ, ◌≤◌, Bool, List, ◌++◌, length, take, IsTrue, Option, Result, OnOk, OnErr}
use Rattle.std.specs.Borrow.{GName}
use Rattle.xio.specs.Causes.{HasCause}

pub record PrinterState (S : Type 0) : Type 0 where
  -- all that was printed
  pub text : List ℕ
  -- what of it has arrived
  pub arrived : List ℕ
  -- how many calls failed
  pub faults : ℕ
  -- what printing doesn't change
  pub setting : S

abbrev pub IsFront : List ℕ → List ℕ → Type 0
IsFront front text = (n : ℕ) × (front ≡ take n text)

-- At `Ok` the text stands behind what was printed. At `Err` a front of both has arrived, no less than before, and the rest is lost.
pub record Prints {S E : Type 0} (told counted : Bool) (old new : PrinterState S) (text : List ℕ) (result : Result Unit E) : Type 0 where
  pub printed : IsTrue told → OnOk result (new.text ≡ old.text ++ text)
  pub front : IsTrue told → OnErr result (IsFront new.arrived (old.text ++ text))
  pub lost : IsTrue told → OnErr result (new.text ≡ new.arrived)
  pub more : IsTrue told → length old.arrived ≤ length new.arrived
  pub cause : IsTrue counted → HasCause old.faults new.faults result
  pub setting : new.setting ≡ old.setting

-- a text of which the last part waits to arrive
abbrev pub behind : {S : Type 0} → List ℕ → List ℕ → ℕ → S → PrinterState S
behind held waiting faults setting = record { text = held ++ waiting; arrived = held; faults = faults; setting = setting }

-- what stays while a sink and a buffer are lent to a printer
pub record PrintSetting (S : Type 0) : Type 0 where
  pub sink : GName
  pub buffer : GName
  pub flushed : Option ℕ
  pub setting : S
