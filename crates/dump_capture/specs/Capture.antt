-- The blocks of a capture of points: an interface block stands right before the first packet that is on it.
use Rattle.std.specs.Prelude.{◌≡◌, ◌≢◌, ℕ, ◌-◌, ◌<◌, ◌≤◌, List, [], ◌∷◌, ◌++◌, length, take, Option, Some, None, Result, Ok, Err}
use Rattle.xio.specs.Causes.{Rose}
use Rattle.pcapng_text.specs.Written.{interface_bytes, packet_bytes, section_bytes}
use Rattle.dump_capture.specs.declared.key.Key.{Key}
use Rattle.dump_capture.specs.declared.put_end.PutEnd.{PutEnd}
use Rattle.dump_capture.specs.declared.put_end.PutEnd.TheVariants.{WriteFault, OutOfMemory}
use Rattle.dump_capture.specs.Key.{if_name, key_of}
use Rattle.dump_capture.specs.Keys.{number_of}
use Rattle.dump_capture.specs.Point.{PlainPoint}

abbrev pub interface_block : PlainPoint → List ℕ
interface_block point = interface_bytes (if_name point) point.snap

abbrev pub packet_block : ℕ → PlainPoint → List ℕ
packet_block number point = packet_bytes number point.timestamp point.length point.kept point.options

abbrev pub blocks_at : List Key → PlainPoint → Option ℕ → List ℕ
blocks_at keys point (Some number) = packet_block number point
blocks_at keys point None = interface_block point ++ packet_block (length keys) point

-- the blocks of a point, with these interface blocks before them
unfoldable pub blocks_of : List Key → PlainPoint → List ℕ
blocks_of keys point = blocks_at keys point (number_of keys point)

abbrev pub keys_at : List Key → PlainPoint → Option ℕ → List Key
keys_at keys point (Some number) = keys
keys_at keys point None = keys ++ key_of point ∷ []

-- the interface blocks behind them
unfoldable pub keys_after : List Key → PlainPoint → List Key
keys_after keys point = keys_at keys point (number_of keys point)

abbrev pub text_behind : List Key → List PlainPoint → List ℕ
text_behind keys [] = []
text_behind keys (point ∷ points) = blocks_of keys point ++ text_behind (keys_after keys point) points

-- a whole capture
abbrev pub capture_text : List PlainPoint → List ℕ
capture_text points = section_bytes ++ text_behind [] points

-- `Ok` put all of the blocks behind what was held, a fault the first `written` bytes of them, and want of memory nothing
abbrev pub Puts : List ℕ → List ℕ → Result Unit PutEnd → List ℕ → Type 0
Puts old new (Ok _) blocks = new ≡ old ++ blocks
Puts old new (Err (WriteFault written)) blocks = new ≡ old ++ take written blocks
Puts old new (Err OutOfMemory) blocks = new ≡ old

-- the same of one block behind so many bytes that were written before it
abbrev pub WritesBehind : ℕ → List ℕ → List ℕ → Result Unit PutEnd → List ℕ → Type 0
WritesBehind before old new (Ok _) block = new ≡ old ++ block
WritesBehind before old new (Err (WriteFault written)) block = new ≡ old ++ take (written - before) block
WritesBehind before old new (Err OutOfMemory) block = ⊥

-- a fault stops from one place on, before another
abbrev pub StopsBetween : ℕ → ℕ → Result Unit PutEnd → Type 0
StopsBetween first last (Err (WriteFault written)) = (first ≤ written) × (written < last)
StopsBetween first last _ = Unit {0}

-- a count of faults never falls; it rises in a call that fails and in no other
pub record HasPutCause (before now : ℕ) (result : Result Unit PutEnd) : Type 0 where
  pub later : before ≤ now
  pub failed : (written : ℕ) → result ≡ Err (WriteFault written) → Rose before now
  pub same : ((written : ℕ) → result ≢ Err (WriteFault written)) → now ≡ before
