-- What a read takes from a source, and what a write and a flush leave in a sink.
use Rattle.std.specs.Prelude.{◌≡◌, ℕ, ◌<◌, ◌≤◌, List, [], ◌++◌, length, take, Result, Ok, Err}
use Rattle.xio.specs.Prefixes.{AppendsPrefix}
use Rattle.xio.specs.declared.read_end.ReadEnd.{ReadEnd}
use Rattle.xio.specs.declared.read_end.ReadEnd.TheVariants.{ReadFault, TooLarge, OutOfMemory}
use Rattle.xio.specs.declared.write_fault.WriteFault.{WriteFault}

-- `Ok n` put the first n bytes of the rest into the buffer; n is 0 only at the end, or where the buffer is empty.
-- `Err` took nothing.
abbrev pub ReadsFrom : {E : Type 0} → List ℕ → List ℕ → Result ℕ E → List ℕ → Type 0
ReadsFrom old new (Ok n) buffer = (old ≡ take n buffer ++ new) × (n ≡ 0 → 0 < length buffer → old ≡ [])
ReadsFrom old new (Err _) buffer = new ≡ old

-- the front of the rest was taken, and stands behind what was there
pub record Moves (rest rest' into into' : List ℕ) : Type 0 where
  pub taken : List ℕ
  pub left : rest ≡ taken ++ rest'
  pub put : into' ≡ into ++ taken

-- `Ok` appended all of the rest, which was within the limit. A fault left standing what was read before it.
-- `TooLarge` names the limit, and the rest was longer.
abbrev pub ReadsAll : ℕ → List ℕ → List ℕ → List ℕ → List ℕ → Result Unit ReadEnd → Type 0
ReadsAll limit rest rest' into into' (Ok _) = (into' ≡ into ++ rest) × (rest' ≡ []) × (length rest ≤ limit)
ReadsAll limit rest rest' into into' (Err ReadFault) = Moves rest rest' into into'
ReadsAll limit rest rest' into into' (Err (TooLarge n)) = (n ≡ limit) × (limit < length rest) × AppendsPrefix into into' rest
ReadsAll limit rest rest' into into' (Err OutOfMemory) = AppendsPrefix into into' rest

-- the front of the rest was taken, at most so many bytes, and no more than that front stands behind what was there
pub record Takes (most : ℕ) (rest rest' into into' : List ℕ) : Type 0 where
  pub taken : List ℕ
  pub within : length taken ≤ most
  pub left : rest ≡ taken ++ rest'
  pub put : AppendsPrefix into into' taken

-- only the limit that was given is named
abbrev pub NamesLimit : ℕ → Result Unit ReadEnd → Type 0
NamesLimit limit (Err (TooLarge n)) = n ≡ limit
NamesLimit limit _ = Unit {0}

-- new is old with at most so many bytes behind it
pub record Grows (most : ℕ) (old new : List ℕ) : Type 0 where
  pub grown : List ℕ
  pub within : length grown ≤ most
  pub behind : new ≡ old ++ grown

-- `Ok n` put the first n bytes of the piece behind what was held. `Err` put nothing there.
abbrev pub WritesTo : {E : Type 0} → List ℕ → List ℕ → Result ℕ E → List ℕ → Type 0
WritesTo old new (Ok n) piece = new ≡ old ++ take n piece
WritesTo old new (Err _) piece = new ≡ old

-- `Ok` put all of the bytes behind what was held, and a fault the first `written` of them
abbrev pub WritesAll : List ℕ → List ℕ → Result Unit WriteFault → List ℕ → Type 0
WritesAll old new (Ok _) bytes = new ≡ old ++ bytes
WritesAll old new (Err fault) bytes = new ≡ old ++ take fault.written bytes

-- at `Ok` all that is held is flushed, and at `Err` as much as before
abbrev pub Flushes : {E : Type 0} → List ℕ → ℕ → ℕ → Result Unit E → Type 0
Flushes held old new (Ok _) = new ≡ length held
Flushes held old new (Err _) = new ≡ old
