-- Bytes that were taken up to a place, and what a capture holds behind it.
use Rattle.std.proofs.Common.{◌≡◌, ℕ, ◌+◌, ◌-◌, ◌<◌, ◌≤◌, Bool, true, false, cond, nat_lt, List, [], ◌∷◌, ◌++◌, take, drop, length, refl, ap, sym, ◌∙◌, append_assoc, arith}
use Rattle.std.specs.List.{All}
use Rattle.std.proofs.lemmas.List.{drop_at, length-append, length-take-le, take-append-drop}
use Rattle.pcapng_text.specs.declared.endian.Endian.{Endian}
use Rattle.pcapng_text.specs.declared.progress.Progress.{Progress}
use Rattle.pcapng_text.specs.Section.{Outcome, Breaks, Passes, Brings}
use Rattle.pcapng_text.specs.Reading.{End, GoesPast, Gives, Packet, Reading, Skips, Step, Stops, StopsBefore, StopsInBlock, TakesUpTo, block_step, followed_by, prepend, reading, step, step_to}
use Rattle.pcapng_text.proofs.Steps.{GoesOn, gives, reading-past, reading-step, skips, step-goes, stops}

-- nothing was taken
pub takes_none : (place : ℕ) (rest : List ℕ) → TakesUpTo place place rest rest
takes_none place rest = record { taken = []; left = refl; counted = omega arith }

-- first up to one place, then up to another
pub takes_more : {place place' place'' : ℕ} {rest rest' rest'' : List ℕ} → TakesUpTo place place' rest rest' → TakesUpTo place' place'' rest' rest'' → TakesUpTo place place'' rest rest''
takes_more {rest''} first second = record {
  taken = first.taken ++ second.taken;
  left = first.left ∙ ap (λ xs. first.taken ++ xs) second.left ∙ sym (append_assoc first.taken second.taken rest'');
  counted = omega (arith, length-append first.taken second.taken, first.counted, second.counted);
}

-- all bytes of a block were taken
pub takes_block : (place size : ℕ) (rest rest' : List ℕ) → size ≤ length rest → rest' ≡ drop size rest → TakesUpTo place (place + size) rest rest'
takes_block place size rest rest' enough left = record {
  taken = take size rest;
  left = rw left (sym (take-append-drop size rest));
  counted = ap (λ n. place + n) (length-take-le size rest enough);
}

-- what is left is behind what was taken
taken-drop : {place place' : ℕ} {rest rest' : List ℕ} → TakesUpTo place place' rest rest' → drop (place' - place) rest ≡ rest'
taken-drop {place} {place'} {rest'} t = rw t.left (drop_at t.taken rest' (place' - place) (omega (arith, t.counted)))

module _ (limit : ℕ) (before : Progress) (rest : List ℕ) where
  pub reading-stops : (end : End) → step limit before rest ≡ Stops end → reading limit before rest ≡ record { packets = []; end = end }
  reading-stops end is = reading-step limit before rest ∙ ap (λ s. followed_by s (λ after. reading limit after (drop (after.place - before.place) rest))) is

  module _ (next : Progress) (rest' : List ℕ) (taken : TakesUpTo before.place next.place rest rest') where
    pub reading-skips : step limit before rest ≡ Skips next → reading limit before rest ≡ reading limit next rest'
    reading-skips is = reading-step limit before rest ∙ ap (λ s. followed_by s (λ after. reading limit after (drop (after.place - before.place) rest))) is ∙ ap (reading limit next) (taken-drop taken)

    pub reading-gives : (packet : Packet) → step limit before rest ≡ Gives packet next → reading limit before rest ≡ prepend packet (reading limit next rest')
    reading-gives packet is =
        reading-step limit before rest ∙ ap (λ s. followed_by s (λ after. reading limit after (drop (after.place - before.place) rest))) is ∙ ap (λ bytes. prepend packet (reading limit next bytes)) (taken-drop taken)

-- a stop inside of a block is before the end of each packet's block
pub stops_before : (limit : ℕ) (first before : Progress) (rest rest' rest'' : List ℕ) → reading limit first rest ≡ reading limit before rest' → TakesUpTo first.place before.place rest rest'
    → StopsInBlock before (step limit before rest') rest' rest'' → StopsBefore (reading limit first rest).packets first rest rest''
stops_before limit first before rest rest' rest'' same taken stopped = record {
  stop = stopped.stop;
  taken = takes_more taken stopped.taken;
  none = rw same (reading-past limit stopped.stop before rest' stopped.cut);
}

-- a stop before a block has twelve bytes is inside of it
past_start : (place : ℕ) (before : Progress) (s : Step) → GoesOn before s → place < before.place + 12 → GoesPast place s
past_start place before (Stops end) goes early = tt
past_start place before (Skips next) (skips _ on) early = omega arith
past_start place before (Gives packet next) (gives _ _ on _) early = omega arith

pub stopped_early : (limit : ℕ) (before : Progress) (rest rest' came : List ℕ) → length came < 12 → rest ≡ came ++ rest' → StopsInBlock before (step limit before rest) rest rest'
stopped_early limit before rest rest' came few left = record {
  stop = before.place + length came;
  taken = record { taken = came; left = left; counted = refl };
  cut = past_start _ before (step limit before rest) (step-goes limit before rest) (omega arith);
}

-- and so is one before a block has all its bytes
past_to : (place : ℕ) (before : Progress) (end : ℕ) (endian : Endian) (outcome : Outcome) → place < end → GoesPast place (step_to before end endian outcome)
past_to place before end endian (Breaks rule) early = tt
past_to place before end endian (Passes interfaces) early = early
past_to place before end endian (Brings timestamp frame interfaces) early = early

past_either : (place : ℕ) (test : Bool) (one other : Step) → GoesPast place one → GoesPast place other → GoesPast place (cond test one other)
past_either place true one other p q = p
past_either place false one other p q = q

past_block : (place : ℕ) (before : Progress) (endian : Endian) (size : ℕ) (block : List ℕ) → place < before.place + size → GoesPast place (block_step before endian size block)
unfolding block_step
past_block place before endian size block early =
    past_either place (nat_lt (length block) size) _ _ tt (past_to place before (before.place + size) endian _ early)

pub stopped_later : (limit : ℕ) (before : Progress) (rest rest' came : List ℕ) (endian : Endian) (size : ℕ) → step limit before rest ≡ block_step before endian size (take size rest)
    → length came < size → rest ≡ came ++ rest' → StopsInBlock before (step limit before rest) rest rest'
stopped_later limit before rest rest' came endian size is few left = record {
  stop = before.place + length came;
  taken = record { taken = came; left = left; counted = refl };
  cut = rw is (past_block (before.place + length came) before endian size (take size rest) (omega arith));
}
