-- What a turn does to the phase under way, by the lines that are left.
use Rattle.std.proofs.Common.{◌≡◌, ℕ, ◌+◌, ◌≤◌, zero, suc, Bool, true, false, List, [], ◌∷◌, ◌++◌, drop, Option, Some, None, refl, sym, ap, ◌∙◌, arith, ◌⊎◌, inl, inr}
use Rattle.script_text.specs.declared.what.Line.{Line}
use Rattle.script_text.specs.declared.what.What.{What}
use Rattle.script_text.specs.declared.what.What.TheVariants as what
use Rattle.xdp_state.proofs.Counts.{after_more, count_made}
use Rattle.xdp_state.specs.Answer.{answer}
use Rattle.xdp_state.specs.Book.{Book, after, applied, takes}
use Rattle.xdp_state.specs.declared.change.Change.{Change}
use Rattle.xdp_state.specs.declared.library.Library.{Library}
use Rattle.xdp_state.specs.declared.judgement.Judgement.{Judgement}
use Rattle.xdp_state.specs.declared.judgement.Judgement.TheVariants.{Accepted, Shown, Refused}
use Rattle.xdp_tool.specs.Plan.{Phase, closed, phases_from, with_answer, with_what}
use Rattle.xdp_tool.specs.Table.{table_of}
use Rattle.xdp_tool.specs.declared.table.Table.{Table}
use Rattle.xdp_tool.specs.Turn.{answered, asked, phase_after, turn_of}
use Rattle.xdp_tool.specs.Walked.{phases_behind}
use Rattle.xdp_tool.specs.declared.turn.Turn.{Turn}
use Rattle.xdp_tool.specs.declared.turn.Turn.TheVariants.{Publish, HandIn, Again, End}

-- the lines that are left at a place: none, or one and those behind it
pub lines-at : (lines : List Line) (n : ℕ) → (drop n lines ≡ []) ⊎ ((line : Line) × (drop n lines ≡ line ∷ drop (n + 1) lines))
lines-at [] zero = inl refl
lines-at [] (suc n) = inl refl
lines-at (line ∷ lines) zero = inr (line, refl)
lines-at (line ∷ lines) (suc n) = elim (lines-at lines n) [ inl none ↦ inl none | inr some ↦ inr (some.0, further some.0 some.1) ]
  where
    further : (first : Line) → drop n lines ≡ first ∷ drop (n + 1) lines → drop n lines ≡ first ∷ drop (suc n + 1) (line ∷ lines)
    further first is = let place : suc n + 1 ≡ suc (n + 1) = omega arith in rw place is

-- a turn that doesn't end the phase takes one line
answer-publishes : (line : ℕ) (table : Table) (judged : Judgement) (phase : Phase) (change : Change) → Publish change ≡ answered judged → (with_answer line table judged phase).work.published ≡ phase.work.published ++ change ∷ []
answer-publishes line table (Accepted c) phase change is = let same : c ≡ change = cc in ap (λ x. phase.work.published ++ x ∷ []) same
answer-publishes line table Shown phase change is = absurd cc
answer-publishes line table (Refused reason) phase change is = absurd cc

pub turn-publishes : (library : Library) (phase : Phase) (lines : List Line) (change : Change) → Publish change ≡ turn_of library phase lines → (phase_after library phase lines).work.published ≡ phase.work.published ++ change ∷ []
turn-publishes library phase [] change is = absurd cc
turn-publishes library phase (line ∷ lines) change is = by_what line.what is
  where
    by_what : (w : What) → Publish change ≡ asked library phase line.line w → (with_what library line.line w phase).work.published ≡ phase.work.published ++ change ∷ []
    by_what (what.Command command) is = answer-publishes line.line (table_of library command) (answer library (after phase.work.published) command) phase change is
    by_what (what.Packet processor frame) is = absurd cc
    by_what what.Barrier is = absurd cc

answer-keeps : (line : ℕ) (table : Table) (judged : Judgement) (phase : Phase) → Again ≡ answered judged → (with_answer line table judged phase).work.published ≡ phase.work.published
answer-keeps line table (Accepted c) phase is = absurd cc
answer-keeps line table Shown phase is = refl
answer-keeps line table (Refused reason) phase is = refl

pub turn-again : (library : Library) (phase : Phase) (lines : List Line) → Again ≡ turn_of library phase lines → (phase_after library phase lines).work.published ≡ phase.work.published
turn-again library phase [] is = absurd cc
turn-again library phase (line ∷ lines) is = by_what line.what is
  where
    by_what : (w : What) → Again ≡ asked library phase line.line w → (with_what library line.line w phase).work.published ≡ phase.work.published
    by_what (what.Command command) is = answer-keeps line.line (table_of library command) (answer library (after phase.work.published) command) phase is
    by_what (what.Packet processor frame) is = absurd cc
    by_what what.Barrier is = absurd cc

not-handed : (judged : Judgement) (processor : ℕ) {G : Type 0} → HandIn processor ≡ answered judged → G
not-handed (Accepted c) processor is = absurd cc
not-handed Shown processor is = absurd cc
not-handed (Refused reason) processor is = absurd cc

pub turn-hands : (library : Library) (phase : Phase) (lines : List Line) (at : ℕ) → HandIn at ≡ turn_of library phase lines → (phase_after library phase lines).work.published ≡ phase.work.published
turn-hands library phase [] at is = absurd cc
turn-hands library phase (line ∷ lines) at is = by_what line.what is
  where
    by_what : (w : What) → HandIn at ≡ asked library phase line.line w → (with_what library line.line w phase).work.published ≡ phase.work.published
    by_what (what.Command command) is = not-handed (answer library (after phase.work.published) command) at is
    by_what (what.Packet processor frame) is = refl
    by_what what.Barrier is = absurd cc

-- a turn that doesn't end the phase
abbrev pub goes_on : Turn → Bool
goes_on (End barrier) = false
goes_on _ = true

pub turn-goes_on : (library : Library) (phase : Phase) (lines : List Line) (n : ℕ) (turn : Turn) → turn ≡ turn_of library phase (drop n lines) → goes_on turn ≡ true → phases_from library phase (drop n lines) ≡ phases_from library (phase_after library phase (drop n lines)) (drop (n + 1) lines)
turn-goes_on library phase lines n turn is on = elim (lines-at lines n) [ inl none ↦ at_end none | inr some ↦ at_line some.0 some.1 ]
  where
    at_end : drop n lines ≡ [] → phases_from library phase (drop n lines) ≡ phases_from library (phase_after library phase (drop n lines)) (drop (n + 1) lines)
    at_end none = absurd (let ends : turn ≡ End None = is ∙ ap (turn_of library phase) none in let off : goes_on turn ≡ false = ap goes_on ends in cc)

    by_what : (line : ℕ) (w : What) (rest : List Line) → turn ≡ asked library phase line w → phases_from library phase (record { line = line; what = w } ∷ rest) ≡ phases_from library (with_what library line w phase) rest
    by_what line (what.Command command) rest same = refl
    by_what line (what.Packet processor frame) rest same = refl
    by_what line what.Barrier rest same = absurd (let off : goes_on turn ≡ false = ap goes_on same in cc)

    at_line : (line : Line) → drop n lines ≡ line ∷ drop (n + 1) lines → phases_from library phase (drop n lines) ≡ phases_from library (phase_after library phase (drop n lines)) (drop (n + 1) lines)
    at_line line some = rw some (by_what line.line line.what (drop (n + 1) lines) (is ∙ ap (turn_of library phase) some))

not-ended : (judged : Judgement) (barrier : Option ℕ) {G : Type 0} → End barrier ≡ answered judged → G
not-ended (Accepted c) barrier is = absurd cc
not-ended Shown barrier is = absurd cc
not-ended (Refused reason) barrier is = absurd cc

-- a turn that ends it
pub record EndsAt (library : Library) (phase : Phase) (barrier : Option ℕ) (lines left : List Line) : Type 0 where
  pub phases : phases_from library phase lines ≡ closed barrier phase ∷ phases_behind library barrier phase left
  pub same : phase_after library phase lines ≡ phase

pub turn-ends : (library : Library) (phase : Phase) (lines left : List Line) (n m : ℕ) (barrier : Option ℕ) → phase.barrier ≡ None → End barrier ≡ turn_of library phase (drop n lines) → ((line : ℕ) → barrier ≡ Some line → m ≡ n + 1) → EndsAt library phase barrier (drop n lines) (drop m lines)
turn-ends library phase lines left n m barrier unclosed is moved = elim (lines-at lines n) [ inl none ↦ at_end none | inr some ↦ at_line some.0 some.1 ]
  where
    at_end : drop n lines ≡ [] → EndsAt library phase barrier (drop n lines) (drop m lines)
    at_end none =
        let ends : barrier ≡ None = let e : End barrier ≡ End None = is ∙ ap (turn_of library phase) none in cc in
        rw (none, ends) (record { phases = ap (λ p. p ∷ []) (rw (← unclosed) refl); same = refl })

    by_what : (line : ℕ) (w : What) → End barrier ≡ asked library phase line w → EndsAt library phase barrier (record { line = line; what = w } ∷ drop (n + 1) lines) (drop m lines)
    by_what line (what.Command command) same = not-ended (answer library (after phase.work.published) command) barrier same
    by_what line (what.Packet processor frame) same = absurd cc
    by_what line what.Barrier same =
        let ends : barrier ≡ Some line = cc in
        let next : m ≡ n + 1 = moved line ends in
        rw (ends, next) (record { phases = refl; same = refl })

    at_line : (line : Line) → drop n lines ≡ line ∷ drop (n + 1) lines → EndsAt library phase barrier (drop n lines) (drop m lines)
    at_line line some = rw some (by_what line.line line.what (is ∙ ap (turn_of library phase) some))

-- the state takes what is published
pub absorbed : (published now : List Change) (change : Change) (state : Book) → state ≡ applied (after published) change → now ≡ published ++ change ∷ [] → state ≡ after now
absorbed published now change state is more = is ∙ sym (after_more published change) ∙ ap after (sym more)

pub applied-few : (book : Book) (change : Change) → (applied book change).count ≤ book.count + 1
applied-few book change = by_case (takes book change) refl
  where
    by_case : (b : Bool) → takes book change ≡ b → (applied book change).count ≤ book.count + 1
    by_case true is = rw is (omega (arith, count_made book change))
    by_case false is = rw is (omega arith)

-- a turn that isn't the script's end took a line
pub moved-on : (turn other : Turn) (new old : ℕ) → turn ≡ other → goes_on other ≡ true → (turn ≡ End None) ⊎ (new ≡ old + 1) → new ≡ old + 1
moved-on turn other new old is on (inl ends) = absurd (let off : goes_on other ≡ false = ap goes_on (sym is ∙ ends) in cc)
moved-on turn other new old is on (inr moved) = moved

pub moved-by : (turn : Turn) (barrier : Option ℕ) (line new old : ℕ) → turn ≡ End barrier → barrier ≡ Some line → (turn ≡ End None) ⊎ (new ≡ old + 1) → new ≡ old + 1
moved-by turn barrier line new old is some (inl ends) = absurd (let none : End barrier ≡ End None = sym is ∙ ends in cc)
moved-by turn barrier line new old is some (inr moved) = moved
