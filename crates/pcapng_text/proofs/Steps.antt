-- A capture block by block: what the first block of the bytes is, and what is behind it.
use Rattle.std.proofs.Common.{◌≡◌, ◌≢◌, ℕ, zero, suc, ◌+◌, ◌-◌, ◌<◌, ◌≤◌, Bool, true, false, nat_lt, List, [], ◌∷◌, take, drop, length, Option, Some, None, refl, ap, sym, ◌∙◌, cond, arith}
use Rattle.std.specs.List.{All}
use Rattle.std.proofs.lemmas.List.Elements.{All-nil, All-cons, All-weaker}
use Rattle.std.proofs.lemmas.Grind.{common_steps}
use Rattle.pcapng_text.specs.declared.endian.Endian.{Endian}
use Rattle.pcapng_text.specs.declared.progress.Progress.{Progress}
use Rattle.pcapng_text.specs.declared.rule.Rule.{Rule}
use Rattle.pcapng_text.specs.declared.rule.Rule.TheVariants.{CutBlock, ShortRest}
use Rattle.pcapng_text.specs.Rule.{first_broken}
use Rattle.pcapng_text.specs.Start.{is_bad_size, order_of, size_of, start_rules}
use Rattle.pcapng_text.specs.Section.{Outcome, Breaks, Passes, Brings, block_outcome}
use Rattle.pcapng_text.specs.Reading.{Step, Stops, Skips, Gives, End, Whole, BadBlock, PastLimit, Packet, Reading, GoesPast, block_step, followed_by, has_ended, head_of, limited_step, no_more, prepend, reading, reading_behind, start_break, started_step, step, step_to}

-- a step leads on by twelve bytes at least, and a packet's block ends where it leads
pub data GoesOn (before : Progress) : Step → Type 0 where
  stops : (end : End) → GoesOn before (Stops end)
  skips : (next : Progress) → before.place + 12 ≤ next.place → GoesOn before (Skips next)
  gives : (packet : Packet) (next : Progress) → before.place + 12 ≤ next.place → packet.end ≡ next.place → GoesOn before (Gives packet next)

step_to-goes : (before : Progress) (place : ℕ) (endian : Endian) (outcome : Outcome) → before.place + 12 ≤ place → GoesOn before (step_to before place endian outcome)
step_to-goes before place endian (Breaks rule) h = stops _
step_to-goes before place endian (Passes interfaces) h = skips _ h
step_to-goes before place endian (Brings timestamp frame interfaces) h = gives _ _ h refl

choice : (before : Progress) (test : Bool) (one other : Step) → GoesOn before one → GoesOn before other → GoesOn before (cond test one other)
choice before true one other g h = g
choice before false one other g h = h

block_step-goes : (before : Progress) (endian : Endian) (size : ℕ) (block : List ℕ) → 12 ≤ size → GoesOn before (block_step before endian size block)
unfolding block_step
block_step-goes before endian size block some =
    choice before (nat_lt (length block) size) _ _ (stops _) (step_to-goes before (before.place + size) endian _ (omega arith))

limited_step-goes : (limit : ℕ) (before : Progress) (bytes : List ℕ) (endian : Endian) (size : ℕ) → 12 ≤ size → GoesOn before (limited_step limit before bytes endian size)
limited_step-goes limit before bytes endian size some =
    choice before (nat_lt limit (before.place + size)) _ _ (stops _) (block_step-goes before endian size (take size bytes) some)

-- the length of a block that keeps its first rules
pub size_of-some : (place : ℕ) (endian : Endian) (head : List ℕ) → first_broken (start_rules place endian head) ≡ None → 12 ≤ size_of endian head
unfolding start_rules is_bad_size
size_of-some place endian head kept = grind (arith, kept)

started_step-goes : (limit : ℕ) (before : Progress) (bytes : List ℕ) (found : Option Rule) → (found ≡ None → 12 ≤ size_of before.endian (head_of bytes)) → GoesOn before (started_step limit before bytes found)
started_step-goes limit before bytes (Some rule) some = stops _
started_step-goes limit before bytes None some = limited_step-goes limit before bytes _ _ (some refl)

pub step-goes : (limit : ℕ) (before : Progress) (bytes : List ℕ) → GoesOn before (step limit before bytes)
unfolding step
step-goes limit before bytes =
    choice before _ _ _ (stops _) (started_step-goes limit before bytes _ (size_of-some before.place before.endian (head_of bytes)))

either_stops : (place : ℕ) (rule : Rule) (test : Bool) → (end : End) × (cond test (Stops Whole) (Stops (BadBlock place rule)) ≡ Stops end)
either_stops place rule true = (Whole, refl)
either_stops place rule false = (BadBlock place rule, refl)

-- in no bytes there is no block
pub step-empty : (limit : ℕ) (before : Progress) → (end : End) × (step limit before [] ≡ Stops end)
unfolding step start_rules
step-empty limit before = either_stops before.place ShortRest (has_ended before.place [])

-- bytes of the block before are dropped
reading_behind-drop : (limit : ℕ) (before : Progress) (passed : ℕ) (bytes : List ℕ) → reading_behind limit before passed bytes ≡ reading limit before (drop passed bytes)
unfolding reading
reading_behind-drop limit before zero bytes = refl
reading_behind-drop limit before (suc passed) [] = refl
reading_behind-drop limit before (suc passed) (b ∷ bytes) = reading_behind-drop limit before passed bytes

-- two readings that agree behind a step agree
followed_by-same : (before : Progress) (s : Step) → GoesOn before s → (f g : Progress → Reading) → ((next : Progress) → before.place + 12 ≤ next.place → f next ≡ g next) → followed_by s f ≡ followed_by s g
followed_by-same before (Stops end) goes f g same = refl
followed_by-same before (Skips next) (skips _ h) f g same = same next h
followed_by-same before (Gives packet next) (gives _ _ h _) f g same = ap (prepend packet) (same next h)

-- the first block and what is behind it
pub reading-step : (limit : ℕ) (before : Progress) (bytes : List ℕ) → reading limit before bytes ≡ followed_by (step limit before bytes) (λ next. reading limit next (drop (next.place - before.place) bytes))
unfolding reading
reading-step limit before [] = let none = step-empty limit before in rw none.1 refl
reading-step limit before (b ∷ bytes) =
    followed_by-same before (step limit before (b ∷ bytes)) (step-goes limit before (b ∷ bytes)) _ _
    (λ next h.
    let size : next.place - before.place ≡ suc (next.place - before.place - 1) = omega arith in
    reading_behind-drop limit next (next.place - before.place - 1) bytes ∙ ap (λ n. reading limit next (drop n (b ∷ bytes))) (sym size))

-- where all behind a step end behind where it leads, all end behind where it stands
behind_step : (before : Progress) (s : Step) → GoesOn before s → (f : Progress → Reading) → ((next : Progress) → All (λ packet. next.place < packet.end) (f next).packets)
    → (place : ℕ) → place ≤ before.place → All (λ packet. place < packet.end) (followed_by s f).packets
behind_step before (Stops end) goes f behind place h = All-nil _
behind_step before (Skips next) (skips _ on) f behind place h =
    All-weaker (λ packet. next.place < packet.end) (λ packet. place < packet.end) (λ packet later. omega arith) (f next).packets (behind next)
behind_step before (Gives packet next) (gives _ _ on ends) f behind place h =
    All-cons (λ packet. place < packet.end) packet (f next).packets (omega arith)
    (All-weaker (λ packet. next.place < packet.end) (λ packet. place < packet.end) (λ packet later. omega arith) (f next).packets (behind next))

-- a packet's block ends behind the place from which it is read
ends_behind : (limit : ℕ) (before : Progress) (passed : ℕ) (bytes : List ℕ) → All (λ packet. before.place < packet.end) (reading_behind limit before passed bytes).packets
ends_behind limit before passed [] = let none = step-empty limit before in rw none.1 (All-nil _)
ends_behind limit before (suc passed) (b ∷ bytes) = ends_behind limit before passed bytes
ends_behind limit before zero (b ∷ bytes) =
    behind_step before (step limit before (b ∷ bytes)) (step-goes limit before (b ∷ bytes)) _ (λ next. ends_behind limit next (next.place - before.place - 1) bytes) before.place (omega arith)

-- a stop inside of a block is before the end of each packet's block
past_step : (place : ℕ) (before : Progress) (s : Step) → GoesOn before s → GoesPast place s → (f : Progress → Reading) → ((next : Progress) → All (λ packet. next.place < packet.end) (f next).packets)
    → All (λ packet. place < packet.end) (followed_by s f).packets
past_step place before (Stops end) goes past f behind = All-nil _
past_step place before (Skips next) (skips _ on) past f behind =
    All-weaker (λ packet. next.place < packet.end) (λ packet. place < packet.end) (λ packet later. omega arith) (f next).packets (behind next)
past_step place before (Gives packet next) (gives _ _ on ends) past f behind =
    All-cons (λ packet. place < packet.end) packet (f next).packets (omega arith)
    (All-weaker (λ packet. next.place < packet.end) (λ packet. place < packet.end) (λ packet later. omega arith) (f next).packets (behind next))

pub reading-past : (limit place : ℕ) (before : Progress) (bytes : List ℕ) → GoesPast place (step limit before bytes) → All (λ packet. place < packet.end) (reading limit before bytes).packets
unfolding reading
reading-past limit place before bytes past =
    rw (reading-step limit before bytes)
    (past_step place before (step limit before bytes) (step-goes limit before bytes) past _ (λ next. ends_behind limit next 0 (drop (next.place - before.place) bytes)))

module _ (limit : ℕ) (before : Progress) (bytes : List ℕ) where
  pub step-ended : has_ended before.place (head_of bytes) ≡ true → step limit before bytes ≡ Stops Whole
  unfolding step
  step-ended ended = rw ended refl

  module _ (on : has_ended before.place (head_of bytes) ≡ false) where
    pub step-broken : (rule : Rule) → start_break before (head_of bytes) ≡ Some rule → step limit before bytes ≡ Stops (BadBlock before.place rule)
    unfolding step
    step-broken rule broken = rw (on, broken) refl

    module _ (kept : start_break before (head_of bytes) ≡ None) (endian : Endian) (is_endian : endian ≡ order_of before.endian (head_of bytes)) (size : ℕ) (is_size : size ≡ size_of before.endian (head_of bytes)) where
      limited : step limit before bytes ≡ limited_step limit before bytes endian size
      unfolding step
      limited = rw (on, kept, is_endian, is_size) refl

      pub step-past : limit < before.place + size → step limit before bytes ≡ Stops PastLimit
      step-past past =
          let test : nat_lt limit (before.place + size) ≡ true = grind arith in
          limited ∙ rw test refl

      pub step-block : before.place + size ≤ limit → step limit before bytes ≡ block_step before endian size (take size bytes)
      step-block within =
          let test : nat_lt limit (before.place + size) ≡ false = grind arith in
          limited ∙ rw test refl
