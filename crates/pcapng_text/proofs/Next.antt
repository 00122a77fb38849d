-- The next block by what was taken of it.
use Rattle.std.proofs.Common.{◌≡◌, ℕ, ◌+◌, ◌<◌, ◌≤◌, true, false, List, [], ◌++◌, take, drop, length, Ok, Err, Result, refl, ap, sym, subst, ◌∙◌, arith}
use Rattle.std.proofs.lemmas.Grind.{common_steps}
use Rattle.std.proofs.lemmas.List.{length-take, nil_from_length, take-append-drop}
use Rattle.pcapng_text.specs.declared.advance.Advance.{Advance}
use Rattle.pcapng_text.specs.declared.advance.Advance.TheVariants.{End, Skipped, Packet}
use Rattle.pcapng_text.specs.declared.block_end.BlockEnd.{BlockEnd}
use Rattle.pcapng_text.specs.declared.block_end.BlockEnd.TheVariants.{BadCapture, ReadFault, TooLarge, OutOfMemory}
use Rattle.pcapng_text.specs.declared.endian.Endian.{Endian}
use Rattle.pcapng_text.specs.declared.progress.Progress.{Progress}
use Rattle.pcapng_text.specs.declared.start.Start.{Start}
use Rattle.pcapng_text.specs.declared.stop.Stop.{Stop}
use Rattle.pcapng_text.specs.declared.stop.Stop.TheVariants as stop
use Rattle.pcapng_text.specs.Buffer.{StopsShort}
use Rattle.pcapng_text.specs.Reading.{BadBlock, Finishes, PastLimit, Reading, Reads, Starts, Step, Steps, StopsInBlock, TakesUpTo, block_step, end_of, has_ended, head_of, reading, step}
use Rattle.pcapng_text.proofs.Steps.{step-block, step-broken, step-ended, step-past}
use Rattle.pcapng_text.proofs.Walk.{reading-stops, stopped_early, stopped_later, takes_none}

-- what came of the first twelve bytes, with the buffer cleared before
pub came-head : (old head rest : List ℕ) → old ≡ [] → head ≡ take 12 (old ++ rest) → head ≡ head_of rest
came-head old head rest cleared is = is ∙ ap (λ xs. take 12 (xs ++ rest)) cleared

pub came-rest : (old rest rest' : List ℕ) → old ≡ [] → rest' ≡ drop 12 (old ++ rest) → rest' ≡ drop 12 rest
came-rest old rest rest' cleared is = is ∙ ap (λ xs. drop 12 (xs ++ rest)) cleared

-- the same bytes start alike
pub starts-same : (limit : ℕ) (before : Progress) (head head' : List ℕ) (result : Result Start BlockEnd) → head ≡ head' → Starts limit before head result → Starts limit before head' result
starts-same limit before head head' result same starts = subst (λ bytes. Starts limit before bytes result) same starts

-- a fault is one whatever else might have been answered
pub same-fault : {X Y : Type 0} (end : BlockEnd) → ◌≡◌ {A = Result X BlockEnd} (Err end) (Err ReadFault) → ◌≡◌ {A = Result Y BlockEnd} (Err end) (Err ReadFault)
same-fault end fault = let is : end ≡ ReadFault = cc in ap Err is

-- nothing was lost
pub head-rest : (head rest rest' : List ℕ) → head ≡ head_of rest → rest' ≡ drop 12 rest → head ++ rest' ≡ rest
head-rest head rest rest' h r = rw (h, r) (take-append-drop 12 rest)

-- an end is seen where no byte came
pub ended-rest : (place : ℕ) (head rest : List ℕ) → head ≡ head_of rest → has_ended place head ≡ true → rest ≡ []
unfolding has_ended
ended-rest place head rest is ended =
    let none : length head ≡ 0 = grind (arith, ended) in
    nil_from_length rest (omega (arith, none, ap length is, length-take 12 rest))

pub ended-step : (limit : ℕ) (before : Progress) (head rest : List ℕ) → head ≡ head_of rest → has_ended before.place head ≡ true → Steps (step limit before rest) before (Ok End)
ended-step limit before head rest is ended = step-ended limit before rest (ap (has_ended before.place) (sym is) ∙ ended)

pub ended-left : (place : ℕ) (rest rest' : List ℕ) → rest ≡ [] → rest' ≡ drop 12 rest → rest' ≡ []
ended-left place rest rest' none left = left ∙ ap (drop 12) none

pub ended-taken : (place : ℕ) (rest rest' : List ℕ) → rest ≡ [] → rest' ≡ [] → TakesUpTo place place rest rest'
ended-taken place rest rest' none left = rw (none, left) (takes_none place [])

module _ (limit : ℕ) (before : Progress) (head rest : List ℕ) (is_head : head ≡ head_of rest) (on : has_ended before.place head ≡ false) where
  still : has_ended before.place (head_of rest) ≡ false
  still = ap (has_ended before.place) (sym is_head) ∙ on

  -- a start that is refused is the step's
  pub refused : (end : BlockEnd) (progress : Progress) → Starts limit before head (Err end) → Steps (step limit before rest) progress (Err end)
  refused (BadCapture offset rule) progress broken =
      let found = rw is_head at broken.1 in
      rw broken.0 (step-broken limit before rest still rule found)
  refused (TooLarge n) progress past =
      let kept = rw is_head at past.1 in
      let far = rw is_head at past.2 in
      step-past limit before rest still kept _ refl _ refl far
  refused ReadFault progress none = absurd none
  refused OutOfMemory progress none = absurd none

  -- a start that is taken leaves it to the block's bytes
  pub started : (start : Start) → Starts limit before head (Ok start) → before.place + start.size ≤ limit → step limit before rest ≡ block_step before start.endian start.size (take start.size rest)
  started start starts within =
      let kept = rw is_head at starts.0 in
      let order = rw is_head at starts.1 in
      let size = rw is_head at starts.2 in
      step-block limit before rest still kept start.endian order start.size size within

-- a fault before twelve bytes came
pub fault_early : (limit : ℕ) (before : Progress) (old came rest rest' : List ℕ) (s : Stop) (result : Result Advance BlockEnd) → old ≡ [] → StopsShort 12 old came rest rest' (Err s)
    → result ≡ Err (end_of s) → result ≡ Err ReadFault → StopsInBlock before (step limit before rest) rest rest'
fault_early limit before old came rest rest' stop.Failed result cleared short is fault =
    stopped_early limit before rest rest' came short.0 (ap (λ xs. xs ++ rest) (sym cleared) ∙ short.1)
fault_early limit before old came rest rest' stop.OutOfMemory result cleared short is fault = cc

-- and before the whole block came
pub fault_later : (limit : ℕ) (before : Progress) (head came rest rest' rest'' : List ℕ) (endian : Endian) (size : ℕ) (s : Stop) (result : Result Advance BlockEnd)
    → step limit before rest ≡ block_step before endian size (take size rest) → head ++ rest' ≡ rest → StopsShort size head came rest' rest'' (Err s)
    → result ≡ Err (end_of s) → result ≡ Err ReadFault → StopsInBlock before (step limit before rest) rest rest''
fault_later limit before head came rest rest' rest'' endian size stop.Failed result is all short e fault =
    stopped_later limit before rest rest'' came endian size is short.0 (sym all ∙ short.1)
fault_later limit before head came rest rest' rest'' endian size stop.OutOfMemory result is all short e fault = cc

-- the answer of a block that was read is that of its step
pub finished : (s t : Step) (place : ℕ) (next : Progress) (advance : Advance) → s ≡ t → Finishes t place next (Ok advance) → Steps s next (Ok advance)
finished s t place next End same answer = absurd answer
finished s t place next Skipped same answer = same ∙ answer
finished s t place next (Packet packet) same answer = same ∙ answer

-- all of a block's bytes were there
pub enough : (size : ℕ) (block rest : List ℕ) → block ≡ take size rest → length block ≡ size → size ≤ length rest
enough size block rest is whole = omega (arith, ap length is, length-take size rest, whole)

-- a step that ends the reading ends it behind blocks without packets too
pub read_end : (limit : ℕ) (before next : Progress) (rest : List ℕ) (first other : Reading) (place : ℕ) (end : BlockEnd) → first ≡ reading limit before rest
    → Steps (step limit before rest) next (Err end) → Reads first other place (Err end)
read_end limit before next rest first other place (BadCapture offset rule) same stops = same ∙ reading-stops limit before rest (BadBlock offset rule) stops
read_end limit before next rest first other place (TooLarge n) same stops = same ∙ reading-stops limit before rest PastLimit stops
read_end limit before next rest first other place ReadFault same stops = tt
read_end limit before next rest first other place OutOfMemory same stops = tt
