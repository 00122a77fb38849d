-- Two blocks that are written one after the other.
use Rattle.std.proofs.Common.{◌≡◌, ℕ, ◌+◌, ◌-◌, ◌<◌, ◌≤◌, List, [], ◌∷◌, ◌++◌, take, length, Some, None, Ok, Err, Result, refl, ap, sym, ◌∙◌, append_assoc, arith, Bool, true, false, if◌then◌else◌}
use Rattle.std.proofs.lemmas.List.{length-append, take-append-le}
use Rattle.std.proofs.Math.Seq.{take-append-add}
use Rattle.pcapng_text.proofs.ReadBack.{packet-fits}
use Rattle.dump_capture.specs.declared.put_end.PutEnd.{PutEnd}
use Rattle.dump_capture.specs.declared.put_end.PutEnd.TheVariants.{WriteFault, OutOfMemory}
use Rattle.dump_capture.specs.Capture.{HasPutCause, Puts, StopsBetween, WritesBehind, blocks_at, blocks_of, interface_block, packet_block}
use Rattle.dump_capture.specs.Keys.{Keys, number_of, shown, shown_at}
use Rattle.dump_capture.specs.declared.key.Key.{Key}
use Rattle.dump_capture.specs.Point.{PlainPoint}
use Rattle.xio.specs.Causes.{Rose}

-- a fault in the first block
pub first_fault : (old new first second : List ℕ) (end : PutEnd) → WritesBehind 0 old new (Err end) first → StopsBetween 0 (0 + length first) (Err end) → Puts old new (Err end) (first ++ second)
first_fault old new first second (WriteFault written) writes within =
    let whole : written - 0 ≡ written = omega arith in
    writes ∙ ap (λ n. old ++ take n first) whole ∙ ap (λ xs. old ++ xs) (sym (take-append-le written first second (omega (arith, within.1))))
first_fault old new first second OutOfMemory writes within = absurd writes

-- and one in the second
pub second_fault : (old new new' first second : List ℕ) (end : PutEnd) → new ≡ old ++ first → WritesBehind (length first) new new' (Err end) second → StopsBetween (length first) (length first + length second) (Err end)
    → Puts old new' (Err end) (first ++ second)
second_fault old new new' first second (WriteFault written) wrote writes within =
    let place : length first + (written - length first) ≡ written = omega (arith, within.0) in
    let front : take written (first ++ second) ≡ first ++ take (written - length first) second =
    ap (λ n. take n (first ++ second)) (sym place) ∙ take-append-add first second (written - length first) in
    writes ∙ ap (λ xs. xs ++ take (written - length first) second) wrote ∙ append_assoc old first (take (written - length first) second) ∙ ap (λ xs. old ++ xs) (sym front)
second_fault old new new' first second OutOfMemory wrote writes within = absurd writes

-- the second decides, where the first is written
pub second_writes : (old new new' first second : List ℕ) (result : Result Unit PutEnd) → new ≡ old ++ first → WritesBehind (length first) new new' result second → StopsBetween (length first) (length first + length second) result
    → Puts old new' result (first ++ second)
second_writes old new new' first second (Ok _) wrote writes within = writes ∙ ap (λ xs. xs ++ second) wrote ∙ append_assoc old first second
second_writes old new new' first second (Err end) wrote writes within = second_fault old new new' first second end wrote writes within

pub second_stops : (first second : List ℕ) (result : Result Unit PutEnd) → StopsBetween (length first) (length first + length second) result → StopsBetween 0 (length (first ++ second)) result
second_stops first second (Ok _) within = tt
second_stops first second (Err (WriteFault written)) within = (omega arith, omega (arith, within.1, length-append first second))
second_stops first second (Err OutOfMemory) within = tt

-- one block alone
pub one_writes : (old new block : List ℕ) (result : Result Unit PutEnd) → WritesBehind 0 old new result block → Puts old new result block
one_writes old new block (Ok _) writes = writes
one_writes old new block (Err (WriteFault written)) writes = let whole : written - 0 ≡ written = omega arith in writes ∙ ap (λ n. old ++ take n block) whole
one_writes old new block (Err OutOfMemory) writes = absurd writes

-- a fault stops before the end of both
pub stops_first : (first second : List ℕ) (end : PutEnd) → StopsBetween 0 (0 + length first) (Err end) → StopsBetween 0 (length (first ++ second)) (Err end)
stops_first first second (WriteFault written) within = (omega arith, omega (arith, within.1, length-append first second))
stops_first first second OutOfMemory within = tt

-- and within one block alone
pub one_stops : (block : List ℕ) (result : Result Unit PutEnd) → StopsBetween 0 (0 + length block) result → StopsBetween 0 (length block) result
one_stops block (Ok _) within = tt
one_stops block (Err (WriteFault written)) within = (within.0, omega (arith, within.1))
one_stops block (Err OutOfMemory) within = tt

-- a fault of the sink is the call's
pub fault-cause : (before now written : ℕ) → before ≤ now → Rose before now → HasPutCause before now (Err (WriteFault written))
fault-cause before now written later rose = record { later = later; failed = λ _ _. rose; same = λ none. absurd (none written refl) }

-- the blocks of a point whose interface block is written, and of another one
pub blocks-known : (keys : List Key) (point : PlainPoint) (number : ℕ) → number_of keys point ≡ Some number → blocks_of keys point ≡ packet_block number point
unfolding blocks_of
blocks-known keys point number is = ap (blocks_at keys point) is

pub blocks-new : (keys : List Key) (point : PlainPoint) → number_of keys point ≡ None → blocks_of keys point ≡ interface_block point ++ packet_block (length keys) point
unfolding blocks_of
blocks-new keys point is = ap (blocks_at keys point) is

pub shown-known : (keys : Keys) (point : PlainPoint) (number : ℕ) → number_of keys.written point ≡ Some number → shown keys point ≡ keys
unfolding shown
shown-known keys point number is = ap (shown_at keys point) is

-- where the blocks of a point leave the keys as they were, an error does too
pub chosen-same : (ok : Bool) (keys known : Keys) → known ≡ keys → keys ≡ if ok then known else keys
chosen-same true keys known same = sym same
chosen-same false keys known same = refl

-- a packet of few bytes has a block whose length fits
pub ruleset fitting = (packet-fits)
