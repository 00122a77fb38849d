-- A capture is a list of blocks, one behind the other (pcapng, section 3). What it holds are the packets up to the
-- first block that breaks a rule or would end past a limit, or up to the input's end.
use Rattle.std.specs.Prelude.{◌≡◌, ◌≢◌, ℕ, zero, suc, ◌+◌, ◌-◌, ◌<◌, ◌≤◌, Bool, ◌==◌, ◌&&◌, nat_lt, List, [], ◌∷◌, ◌++◌, length, take, All, Option, Some, None, Result, Ok, Err, if◌then◌else◌}
use Rattle.xio.specs.Causes.{Rose}
use Rattle.pcapng_text.specs.declared.advance.Advance.{Advance}
use Rattle.pcapng_text.specs.declared.advance.Advance.TheVariants as advance
use Rattle.pcapng_text.specs.declared.block_end.BlockEnd.{BlockEnd}
use Rattle.pcapng_text.specs.declared.block_end.BlockEnd.TheVariants as block_end
use Rattle.pcapng_text.specs.declared.endian.Endian.{Endian}
use Rattle.pcapng_text.specs.declared.endian.Endian.TheVariants.{Little}
use Rattle.pcapng_text.specs.declared.incoming.Incoming.{Incoming}
use Rattle.pcapng_text.specs.declared.interface_block.Interface.{Interface}
use Rattle.pcapng_text.specs.declared.progress.Progress.{Progress}
use Rattle.pcapng_text.specs.declared.refusal.Refusal.{Refusal}
use Rattle.pcapng_text.specs.declared.refusal.Refusal.TheVariants as refusal
use Rattle.pcapng_text.specs.declared.rule.Rule.{Rule}
use Rattle.pcapng_text.specs.declared.rule.Rule.TheVariants.{CutBlock}
use Rattle.pcapng_text.specs.declared.start.Start.{Start}
use Rattle.pcapng_text.specs.declared.stop.Stop.{Stop}
use Rattle.pcapng_text.specs.declared.stop.Stop.TheVariants as stop
use Rattle.pcapng_text.specs.Rule.{first_broken}
use Rattle.pcapng_text.specs.Start.{order_of, size_of, start_rules}
use Rattle.pcapng_text.specs.Packet.{IsFrameSize}
use Rattle.pcapng_text.specs.Section.{Outcome, Breaks, Passes, Brings, block_outcome}
use Rattle.pcapng_text.specs.Buffer.{TakesFront}

-- a packet, and the place where its block ends
pub record Packet : Type 0 where
  pub timestamp : ℕ
  pub frame : List ℕ
  pub end : ℕ

-- why there are no further packets
pub data End : Type 0 where
  Whole : End
  BadBlock : ℕ → Rule → End
  PastLimit : End

pub record Reading : Type 0 where
  pub packets : List Packet
  pub end : End

-- one block
pub data Step : Type 0 where
  Stops : End → Step
  Skips : Progress → Step
  Gives : Packet → Progress → Step

-- the same of a block that ends at a place, with the byte order of its section
abbrev pub step_to : Progress → ℕ → Endian → Outcome → Step
step_to before place endian (Breaks rule) = Stops (BadBlock before.place rule)
step_to before place endian (Passes interfaces) = Skips (record { place = place; endian = endian; interfaces = interfaces })
step_to before place endian (Brings timestamp frame interfaces) =
    Gives (record { timestamp = timestamp; frame = frame; end = place }) (record { place = place; endian = endian; interfaces = interfaces })

-- the first twelve bytes of a block, in which its type, its length and a section's magic stand
abbrev pub head_of : List ℕ → List ℕ
head_of bytes = take 12 bytes

-- a block of a length that is allowed, by what there is of its bytes
unfoldable pub block_step : Progress → Endian → ℕ → List ℕ → Step
block_step before endian size block =
    if nat_lt (length block) size then Stops (BadBlock before.place CutBlock)
    else step_to before (before.place + size) endian (block_outcome endian before.interfaces block)

-- a block of this length, if it ends within the limit
abbrev pub limited_step : ℕ → Progress → List ℕ → Endian → ℕ → Step
limited_step limit before bytes endian size =
    if nat_lt limit (before.place + size) then Stops PastLimit
    else block_step before endian size (take size bytes)

abbrev pub started_step : ℕ → Progress → List ℕ → Option Rule → Step
started_step limit before bytes (Some rule) = Stops (BadBlock before.place rule)
started_step limit before bytes None =
    limited_step limit before bytes (order_of before.endian (head_of bytes)) (size_of before.endian (head_of bytes))

-- the input ends behind a block where there are no bytes
unfoldable pub has_ended : ℕ → List ℕ → Bool
has_ended place head = nat_lt 0 place && (length head == 0)

abbrev pub start_break : Progress → List ℕ → Option Rule
start_break before head = first_broken (start_rules before.place before.endian head)

-- the first block of the bytes
unfoldable pub step : ℕ → Progress → List ℕ → Step
step limit before bytes =
    if has_ended before.place (head_of bytes) then Stops Whole
    else started_step limit before bytes (start_break before (head_of bytes))

abbrev pub prepend : Packet → Reading → Reading
prepend packet behind = record { packets = packet ∷ behind.packets; end = behind.end }

-- the reading of a block and of what is behind it
abbrev pub followed_by : Step → (Progress → Reading) → Reading
followed_by (Stops end) behind = record { packets = []; end = end }
followed_by (Skips next) behind = behind next
followed_by (Gives packet next) behind = prepend packet (behind next)

abbrev pub no_more : Progress → Reading
no_more before = record { packets = []; end = Whole }

-- of bytes of which so many at the front still belong to the block before: a block begins behind them
abbrev pub reading_behind : ℕ → Progress → ℕ → List ℕ → Reading
reading_behind limit before passed [] = followed_by (step limit before []) no_more
reading_behind limit before (suc passed) (b ∷ bytes) = reading_behind limit before passed bytes
reading_behind limit before zero (b ∷ bytes) =
    followed_by (step limit before (b ∷ bytes)) (λ next. reading_behind limit next (next.place - before.place - 1) bytes)

-- what a capture holds behind the blocks that were read
unfoldable pub reading : ℕ → Progress → List ℕ → Reading
reading limit before bytes = reading_behind limit before 0 bytes

-- before the first block
abbrev pub at_start : Progress
at_start = record { place = 0; endian = Little; interfaces = [] }

-- what a capture holds, with blocks up to a limit of bytes
unfoldable pub capture_of : ℕ → List ℕ → Reading
capture_of limit bytes = reading limit at_start bytes

-- what callers know of blocks that are read
pub record Reader : Type 0 where
  pub limit : ℕ
  pub is_live : Bool
  pub progress : Progress

abbrev pub end_of : Stop → BlockEnd
end_of stop.Failed = block_end.ReadFault
end_of stop.OutOfMemory = block_end.OutOfMemory

-- the answer of a block that was read is that of its step, with what is known behind it; want of memory is of any
abbrev pub Finishes : Step → ℕ → Progress → Result Advance Refusal → Type 0
Finishes step place progress (Ok advance.End) = ⊥
Finishes step place progress (Ok advance.Skipped) = step ≡ Skips progress
Finishes step place progress (Ok (advance.Packet packet)) =
    step ≡ Gives (record { timestamp = packet.timestamp; frame = packet.frame; end = progress.place }) progress
Finishes step place progress (Err (refusal.Broken rule)) = step ≡ Stops (BadBlock place rule)
Finishes step place progress (Err refusal.OutOfMemory) = Unit {0}

-- an answer is that of the step, with what is known behind it; a fault and want of memory are of any
abbrev pub Steps : Step → Progress → Result Advance BlockEnd → Type 0
Steps step progress (Ok advance.End) = step ≡ Stops Whole
Steps step progress (Ok advance.Skipped) = step ≡ Skips progress
Steps step progress (Ok (advance.Packet packet)) =
    step ≡ Gives (record { timestamp = packet.timestamp; frame = packet.frame; end = progress.place }) progress
Steps step progress (Err (block_end.BadCapture offset rule)) = step ≡ Stops (BadBlock offset rule)
Steps step progress (Err (block_end.TooLarge _)) = step ≡ Stops PastLimit
Steps step progress (Err block_end.ReadFault) = Unit {0}
Steps step progress (Err block_end.OutOfMemory) = Unit {0}

-- the same for a packet and all that stands before its block, by what the capture holds from the block on and behind it
abbrev pub Reads : Reading → Reading → ℕ → Result (Option Incoming) BlockEnd → Type 0
Reads old new place (Ok (Some packet)) =
    old ≡ prepend (record { timestamp = packet.timestamp; frame = packet.frame; end = place }) new
Reads old new place (Ok None) = old ≡ record { packets = []; end = Whole }
Reads old new place (Err (block_end.BadCapture offset rule)) = old ≡ record { packets = []; end = BadBlock offset rule }
Reads old new place (Err (block_end.TooLarge _)) = old ≡ record { packets = []; end = PastLimit }
Reads old new place (Err block_end.ReadFault) = Unit {0}
Reads old new place (Err block_end.OutOfMemory) = Unit {0}

-- the bytes from one place to another were taken
pub record TakesUpTo (place place' : ℕ) (rest rest' : List ℕ) : Type 0 where
  pub taken : List ℕ
  pub left : rest ≡ taken ++ rest'
  pub counted : place + length taken ≡ place'

-- the block of a step goes on behind a place
abbrev pub GoesPast : ℕ → Step → Type 0
GoesPast place (Stops _) = Unit {0}
GoesPast place (Skips next) = place < next.place
GoesPast place (Gives packet next) = place < next.place

-- bytes were taken up to a place, and the block that stands there was not taken whole
pub record StopsInBlock (before : Progress) (step : Step) (rest rest' : List ℕ) : Type 0 where
  pub stop : ℕ
  pub taken : TakesUpTo before.place stop rest rest'
  pub cut : GoesPast stop step

-- bytes were taken up to a place, and no packet's block was taken whole
pub record StopsBefore (packets : List Packet) (before : Progress) (rest rest' : List ℕ) : Type 0 where
  pub stop : ℕ
  pub taken : TakesUpTo before.place stop rest rest'
  pub none : All (λ packet. stop < packet.end) packets

-- only the limit that was given is named
abbrev pub NamesLimit : {X : Type 0} → ℕ → Result X BlockEnd → Type 0
NamesLimit limit (Err (block_end.TooLarge n)) = n ≡ limit
NamesLimit limit _ = Unit {0}

-- a count of faults never falls; it rises in a call that fails and in no other
pub record HasBlockCause {X : Type 0} (before now : ℕ) (result : Result X BlockEnd) : Type 0 where
  pub later : before ≤ now
  pub failed : result ≡ Err block_end.ReadFault → Rose before now
  pub same : result ≢ Err block_end.ReadFault → now ≡ before

-- a block has some bytes
abbrev pub IsFurther : Progress → Progress → Advance → Type 0
IsFurther old new advance.End = Unit {0}
IsFurther old new advance.Skipped = old.place < new.place
IsFurther old new (advance.Packet _) = old.place < new.place

-- a packet has one of the lengths that are taken
abbrev pub HasFrameSize : Advance → Type 0
HasFrameSize (advance.Packet packet) = IsFrameSize (length packet.frame)
HasFrameSize _ = Unit {0}

-- an answer is that of a block's first bytes; no start is answered at a fault
abbrev pub Starts : ℕ → Progress → List ℕ → Result Start BlockEnd → Type 0
Starts limit before head (Ok start) =
    (start_break before head ≡ None) × (start.endian ≡ order_of before.endian head) × (start.size ≡ size_of before.endian head)
Starts limit before head (Err (block_end.BadCapture offset rule)) = (offset ≡ before.place) × (start_break before head ≡ Some rule)
Starts limit before head (Err (block_end.TooLarge n)) =
    (n ≡ limit) × (start_break before head ≡ None) × (limit < before.place + size_of before.endian head)
Starts limit before head (Err block_end.ReadFault) = ⊥
Starts limit before head (Err block_end.OutOfMemory) = ⊥
