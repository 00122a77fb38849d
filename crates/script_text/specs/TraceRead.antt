-- What a trace says: with how many publications each packet was carried. Its lines are numbered from 1, and a line feed ends each.
-- The first is `xdptrace 1`, the last `end`. Between them stands for each phase, from 0, `phase K`, and behind it for each packet of
-- the phase `PROCESSOR PLACE COUNT VERDICT TARGET SIZE DIGITS`. Processors are below 8 and ascend; places on each go from 0.
use Rattle.std.specs.Prelude.{◌≡◌, ℕ, ◌+◌, ◌-◌, ◌^◌, ◌<◌, ◌≤◌, ◌==◌, ◌&&◌, ◌||◌, ◌%◌, zero, suc, Bool, false, nat_le, List, [], ◌∷◌, ◌++◌, length, map, codes, replicate, slice_get, Option, Some, None, is_some, option_and_then, Result, Ok, Err, if◌then◌else◌, ⊤}
use Rattle.std.specs.List.{list_all}
use Rattle.std.specs.Option.{option_map}
use Rattle.std.specs.Str.{bytes_eq}
use Rattle.hex.specs.Hex.{IsBytes}
use Rattle.script_text.specs.Numbers.{printed_number}
use Rattle.script_text.specs.Readings.{◌>>=◌, found}
use Rattle.script_text.specs.Vocabulary.{action_of}
use Rattle.script_text.specs.Words.{parts_of}
use Rattle.script_text.specs.declared.trace_read.Reading.{Reading}
use Rattle.script_text.specs.declared.trace_read.TraceEnd.{TraceEnd}
use Rattle.script_text.specs.declared.trace_read.TraceEnd.TheVariants.{BadTrace, OutOfMemory}
use Rattle.script_text.specs.declared.trace_row.CountRow.{CountRow}
use Rattle.xdp_state.specs.declared.carried.Carried.{Carried}

-- pairs of lower-case hexadecimal digits, at least one
abbrev pub is_printed_digit : ℕ → Bool
is_printed_digit b = (nat_le 48 b && nat_le b 57) || (nat_le 97 b && nat_le b 102)

unfoldable pub are_printed_pairs : List ℕ → Bool
are_printed_pairs word = nat_le 2 (length word) && (length word % 2 == 0) && list_all is_printed_digit word

-- what became of a packet: its verdict, its target, and its frame with the size in front; the size isn't compared with the digits
unfoldable pub is_way : List (List ℕ) → Bool
is_way (verdict ∷ target ∷ size ∷ digits ∷ []) =
    is_some (action_of verdict) && is_some (printed_number target) && is_some (printed_number size) && are_printed_pairs digits
is_way _ = false

abbrev pub row_of_words : List (List ℕ) → Option CountRow
row_of_words (processor ∷ place ∷ count ∷ way) =
    if is_way way then option_and_then (λ processor. option_and_then (λ place. option_map (λ count.
    record { processor = processor; place = place; count = count })
    (printed_number count)) (printed_number place)) (printed_number processor)
    else None
row_of_words _ = None

-- the packet of a line, whose words have one space between them
unfoldable pub row_of : List ℕ → Option CountRow
row_of line = row_of_words (parts_of 32 line)

abbrev pub is_the_number : ℕ → Option ℕ → Bool
is_the_number number (Some read) = read == number
is_the_number number None = false

abbrev pub are_heading_words : ℕ → List (List ℕ) → Bool
are_heading_words number (word ∷ digits ∷ []) = bytes_eq word (codes "phase") && is_the_number number (printed_number digits)
are_heading_words number _ = false

-- the heading of the phase of this number
unfoldable pub is_heading : ℕ → List ℕ → Bool
is_heading number line = are_heading_words number (parts_of 32 line)

-- What the lines so far give: the counts of the phases before the last one; by processor those of the last phase, of no processor
-- before the first heading; and the processor of the last packet, 0 behind a heading.
pub record TraceCounts : Type 0 where
  pub ended : List (List (List ℕ))
  pub last : List (List ℕ)
  pub processor : ℕ

abbrev pub no_counts : TraceCounts
no_counts = record { ended = []; last = []; processor = 0 }

-- the phase under way, where there is one
abbrev pub last_phase : List (List ℕ) → List (List (List ℕ))
last_phase [] = []
last_phase (counts ∷ more) = (counts ∷ more) ∷ []

abbrev pub phases_in : TraceCounts → List (List (List ℕ))
phases_in read = read.ended ++ last_phase read.last

abbrev pub with_phase : TraceCounts → TraceCounts
with_phase read = record { ended = phases_in read; last = replicate 8 []; processor = 0 }

-- one count more on a processor
abbrev pub counted_on : ℕ → ℕ → List (List ℕ) → List (List ℕ)
counted_on processor count [] = []
counted_on zero count (counts ∷ more) = (counts ++ count ∷ []) ∷ more
counted_on (suc processor) count (counts ∷ more) = counts ∷ counted_on processor count more

abbrev pub with_row : TraceCounts → CountRow → TraceCounts
with_row read row = record read { last = counted_on row.processor row.count read.last; processor = row.processor }

abbrev pub has_so_many : ℕ → Option (List ℕ) → Bool
has_so_many number (Some counts) = length counts == number
has_so_many number None = false

-- the row is of a processor that is there, of no earlier one than the row before it, and of that processor's next place
abbrev pub is_next : ℕ → List (List ℕ) → CountRow → Bool
is_next processor last row = nat_le processor row.processor && has_so_many row.place (slice_get last row.processor)

abbrev pub with_next : TraceCounts → CountRow → Option TraceCounts
with_next read row = if is_next read.processor read.last row then Some (with_row read row) else None

-- with one line more, where that may stand there
unfoldable pub with_line : TraceCounts → List ℕ → Option TraceCounts
with_line read line =
    if is_heading (length (phases_in read)) line then Some (with_phase read)
    else option_and_then (with_next read) (row_of line)

-- behind the line `end` nothing stands
abbrev pub at_end : TraceCounts → ℕ → List (List ℕ) → Result (List (List (List ℕ))) ℕ
at_end read line ([] ∷ []) = Ok (phases_in read)
at_end read line _ = Err line

-- By the parts between the line feeds, from the line of this number on: the counts, or the first line that can't stand there. What
-- stands behind the last line feed is no line.
abbrev pub read_from : TraceCounts → ℕ → List (List ℕ) → Result (List (List (List ℕ))) ℕ
read_from read line [] = Err line
read_from read line (part ∷ parts) =
    if length parts == 0 then Err line
    else if bytes_eq part (codes "end") then at_end read (line + 1) parts
    else found line (with_line read part) >>= λ read. read_from read (line + 1) parts

abbrev pub read_first : List (List ℕ) → Result (List (List (List ℕ))) ℕ
read_first [] = Err 1
read_first (part ∷ parts) =
    if length parts == 0 then Err 1
    else if bytes_eq part (codes "xdptrace 1") then read_from no_counts 2 parts
    else Err 1

-- by phase and processor the counts of a trace, eight processors in each phase; or the number of the first line outside its grammar
unfoldable pub trace_read : List ℕ → Result (List (List (List ℕ))) ℕ
trace_read bytes = read_first (parts_of 10 bytes)

-- what is read of what was carried: by processor the counts, of eight processors
abbrev pub counts_on : List Carried → List ℕ
counts_on packets = map (λ packet. packet.count) packets

abbrev pub counts_in : List (List Carried) → List (List ℕ)
counts_in carried = map counts_on carried ++ replicate (8 - length carried) []

-- The packet can stand in a trace that is read: its numbers are below 2^32, and its frame has a byte.
pub record IsTraceable (packet : Carried) : Type 0 where
  pub count : packet.count < 2 ^ 32
  pub target : packet.traversal.target < 2 ^ 32
  pub some : 0 < length packet.traversal.frame
  pub size : length packet.traversal.frame < 2 ^ 32
  pub bytes : IsBytes packet.traversal.frame

abbrev pub AreTraceable : List Carried → Type 0
AreTraceable [] = ⊤
AreTraceable (packet ∷ packets) = IsTraceable packet × AreTraceable packets

-- by processor, fewer than 2^32 packets of each
abbrev pub AreTraceableOn : List (List Carried) → Type 0
AreTraceableOn [] = ⊤
AreTraceableOn (packets ∷ more) = (length packets < 2 ^ 32) × AreTraceable packets × AreTraceableOn more

-- by phase, at most eight processors in each
abbrev pub AreTraceableIn : List (List (List Carried)) → Type 0
AreTraceableIn [] = ⊤
AreTraceableIn (carried ∷ more) = (length carried ≤ 8) × AreTraceableOn carried × AreTraceableIn more

-- The answer is the reading that is wanted; only want of memory is free.
abbrev pub ReadsTrace : Result (List (List (List ℕ))) TraceEnd → Result (List (List (List ℕ))) ℕ → Type 0
ReadsTrace (Ok choices) wanted = wanted ≡ Ok choices
ReadsTrace (Err (BadTrace line)) wanted = wanted ≡ Err line
ReadsTrace (Err OutOfMemory) wanted = ⊤

-- the counts that the code has read, as the definitions have them
abbrev pub counts_of : Reading → TraceCounts
counts_of read = record { ended = read.ended; last = read.last.items; processor = read.processor }

-- the same of a call that puts what was read in the place of what was there
abbrev pub LeadsTrace : Result (Unit {0}) TraceEnd → Reading → Result TraceCounts ℕ → Type 0
LeadsTrace (Ok tt) now wanted = wanted ≡ Ok (counts_of now)
LeadsTrace (Err (BadTrace line)) now wanted = wanted ≡ Err line
LeadsTrace (Err OutOfMemory) now wanted = ⊤
