-- Why a call of the outside failed: the object counts its faults, and the count rose in that call.
use Rattle.std.specs.Prelude.{◌≡◌, ◌≢◌, ℕ, ◌+◌, ◌-◌, ◌^◌, ◌≤◌, min, Result, Err, OnOk, OnErr}
use Rattle.xio.specs.declared.files.FileFault.{FileFault}
use Rattle.xio.specs.declared.files.FileFault.TheVariants.{Failed}
use Rattle.xio.specs.declared.read_end.ReadEnd.{ReadEnd}
use Rattle.xio.specs.declared.read_end.ReadEnd.TheVariants.{ReadFault}

-- the count rose, or stands at the last value of its type
abbrev pub Rose : ℕ → ℕ → Type 0
Rose before now = min (before + 1) (2 ^ 64 - 1) ≤ now

-- a count never falls, and a call fails only where it rose; any other call leaves it
pub record HasCause {T E : Type 0} (before now : ℕ) (result : Result T E) : Type 0 where
  pub later : before ≤ now
  pub failed : OnErr result (Rose before now)
  pub same : OnOk result (now ≡ before)

-- the same for a call that may also want memory, which has no cause
pub record HasFileCause {T : Type 0} (before now : ℕ) (result : Result T FileFault) : Type 0 where
  pub later : before ≤ now
  pub failed : result ≡ Err Failed → Rose before now
  pub same : result ≢ Err Failed → now ≡ before

-- the same for a read of a whole source, where only a read fault has a cause
pub record HasReadCause (before now : ℕ) (result : Result Unit ReadEnd) : Type 0 where
  pub later : before ≤ now
  pub failed : result ≡ Err ReadFault → Rose before now
  pub same : result ≢ Err ReadFault → now ≡ before
