-- Where files in memory are to fail.
use Rattle.std.specs.Prelude.{◌≡◌, ℕ, Bool, true, false, List, Result, Ok, Err}
use Rattle.xio.specs.CallPlan.{CallPlan, next_call}
use Rattle.xio.specs.Shelf.{Setup}
use Rattle.xio.specs.declared.files.FileFault.{FileFault}
use Rattle.xio.specs.declared.files.FileFault.TheVariants.{Failed, OutOfMemory}

pub record FaultPlan : Type 0 where
  pub calls : CallPlan
  -- how many bytes a made file has room for
  pub capacity : ℕ
  -- by name
  pub setups : List ℕ → Setup

-- one more call that can fail
abbrev pub after_call : FaultPlan → FaultPlan
after_call plan = record plan { calls = next_call plan.calls }

-- a call that may want memory fails exactly where it is to fail
abbrev pub FailsWhere : {T : Type 0} → Bool → Result T FileFault → Type 0
FailsWhere fails (Ok _) = fails ≡ false
FailsWhere fails (Err Failed) = fails ≡ true
FailsWhere fails (Err OutOfMemory) = Unit {0}
