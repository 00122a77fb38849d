-- What stays as it was while one file of an object of files is lent as a source or a sink.
use Rattle.std.specs.Prelude.{ℕ, Bool, true, false, Option, Some, None}
use Rattle.std.specs.Borrow.{GName}
use Rattle.xio.specs.Handles.{Handle}
use Rattle.xio.specs.Told.{Told}

-- of a lent opened file: what is told once it is taken to its end stays, so all does but its place, which stays within
pub record SourceSetting : Type 0 where
  pub files : GName
  pub file : ℕ
  pub handles : ℕ → Handle
  pub write_faults : ℕ
  pub told : Option Told

-- of a lent made file: all that is told stays but for its bytes
pub record SinkSetting : Type 0 where
  pub files : GName
  pub file : ℕ
  pub handles : ℕ → Handle
  pub read_faults : ℕ
  pub told : Option Told

-- something where it is told
abbrev pub if_told : {T : Type 0} → Bool → T → Option T
if_told true t = Some t
if_told false _ = None
