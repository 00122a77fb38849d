-- How a carrier stands between two phases, and what it makes of a phase.
use Rattle.std.specs.Prelude.{◌≡◌, ℕ, ◌+◌, ◌≤◌, zero, suc, List, [], ◌∷◌, ◌++◌, length, drop, ⊤}
use Rattle.xdp_state.specs.Book.{after}
use Rattle.xdp_state.specs.Standing.{Standing}
use Rattle.xdp_state.specs.Traversals.{carried_from, carried_in, standing_from, standings_in}
use Rattle.xdp_state.specs.Work.{needs_of}
use Rattle.xdp_state.specs.declared.carried.Carried.{Carried}
use Rattle.xdp_state.specs.declared.change.Change.{Change}
use Rattle.xdp_state.specs.declared.library.Library.{Library}
use Rattle.xdp_state.specs.declared.packet.HandIn.{HandIn}
use Rattle.xdp_tool.specs.declared.carrier.Carrier.{Carrier}
use Rattle.xdp_tool.specs.declared.processor.Processor.{Processor}

-- each processor stands there, and has carried nothing of a phase
abbrev pub AreIdle : List Processor → List Standing → Type 0
AreIdle [] [] = ⊤
AreIdle (processor ∷ more) (standing ∷ standings) =
    (processor.own.standing ≡ standing) × (processor.carried ≡ []) × AreIdle more standings
AreIdle _ _ = ⊥

pub record StandsAt (carrier : Carrier) (published : List Change) (standings : List Standing) : Type 0 where
  pub state : carrier.state ≡ after published
  pub processors : AreIdle carrier.processors.items standings

-- the counts of the first packets are legal, from the last count before
abbrev pub AreLegalFront : ℕ → ℕ → List ℕ → List ℕ → Type 0
AreLegalFront last published (need ∷ needs) (count ∷ counts) =
    (last ≤ count) × (need ≤ count) × (count ≤ published) × AreLegalFront count published needs counts
AreLegalFront last published _ _ = ⊤

-- by processor: the counts are legal from one number to another
abbrev pub AreDue : ℕ → ℕ → List Standing → List (List HandIn) → List (List ℕ) → Type 0
AreDue low high [] [] [] = ⊤
AreDue low high (standing ∷ standings) (hs ∷ hand_ins) (counts ∷ others) =
    AreLegalFront low high (needs_of hs) counts × AreDue low high standings hand_ins others
AreDue low high _ _ _ = ⊥

-- each processor carried its packets with these counts, as far as they go
pub record Carries (library : Library) (carrier : Carrier) (carried : List (List Carried)) (published : List Change) (standings : List Standing)
    (hand_ins : List (List HandIn)) (counts : List (List ℕ)) : Type 0 where
  pub lists : carried ≡ carried_in library published standings hand_ins counts
  pub stands : StandsAt carrier published (standings_in library published standings hand_ins counts)

-- the processors stand there, whatever they have carried of the phase
abbrev pub AreStanding : List Processor → List Standing → Type 0
AreStanding [] [] = ⊤
AreStanding (processor ∷ more) (standing ∷ standings) = (processor.own.standing ≡ standing) × AreStanding more standings
AreStanding _ _ = ⊥

-- the first so many have handed over what they carried
abbrev pub AreIdleTo : ℕ → List Processor → List Standing → Type 0
AreIdleTo done [] [] = ⊤
AreIdleTo zero (processor ∷ more) (standing ∷ standings) =
    (processor.own.standing ≡ standing) × AreIdleTo zero more standings
AreIdleTo (suc done) (processor ∷ more) (standing ∷ standings) =
    (processor.own.standing ≡ standing) × (processor.carried ≡ []) × AreIdleTo done more standings
AreIdleTo done _ _ = ⊥

-- A processor has carried the front of these packets with these counts, from where it stood, and the counts of those that are
-- left are at least the number.
pub record IsUpTo (library : Library) (published : List Change) (standing : Standing) (hs : List HandIn) (counts : List ℕ) (now : ℕ)
    (processor : Processor) : Type 0 where
  pub carried : carried_from library published standing hs counts ≡ processor.carried
      ++ carried_from library published processor.own.standing (drop (length processor.carried) hs) (drop (length processor.carried) counts)
  pub stands : standing_from library published standing hs counts
      ≡ standing_from library published processor.own.standing (drop (length processor.carried) hs) (drop (length processor.carried) counts)
  pub legal : AreLegalFront now (length published) (needs_of (drop (length processor.carried) hs))
      (drop (length processor.carried) counts)

-- by processor; the first so many are one number further
abbrev pub AllUpTo : Library → ℕ → List Change → ℕ → List Standing → List (List HandIn) → List (List ℕ) → List Processor → Type 0
AllUpTo library done published now [] [] [] [] = ⊤
AllUpTo library zero published now (s ∷ ss) (hs ∷ hss) (cs ∷ css) (p ∷ ps) =
    IsUpTo library published s hs cs now p × AllUpTo library zero published now ss hss css ps
AllUpTo library (suc done) published now (s ∷ ss) (hs ∷ hss) (cs ∷ css) (p ∷ ps) =
    IsUpTo library published s hs cs (now + 1) p × AllUpTo library done published now ss hss css ps
AllUpTo library done published now _ _ _ _ = ⊥
