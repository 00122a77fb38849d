-- What processors carry. Each carries the packets that it was handed, in order and each once. A packet with the count n is
-- carried over what the first n publications made. What a processor keeps goes on from packet to packet and from phase to
-- phase.
use Rattle.std.specs.Prelude.{ℕ, List, [], ◌∷◌, length, take}
use Rattle.xdp_state.specs.Book.{Book, after}
use Rattle.xdp_state.specs.Handed.{Handed}
use Rattle.xdp_state.specs.Standing.{Standing}
use Rattle.xdp_state.specs.Traversal.{Way, way_of, traversal_of, standing_for, standing_behind}
use Rattle.xdp_state.specs.Work.{Work}
use Rattle.xdp_state.specs.declared.carried.Carried.{Carried}
use Rattle.xdp_state.specs.declared.change.Change.{Change}
use Rattle.xdp_state.specs.declared.library.Library.{Library}
use Rattle.xdp_state.specs.declared.packet.HandIn.{HandIn}

-- a processor first gets the maps of the members that there are then
abbrev pub way_over : Library → Book → Standing → Handed → Way
way_over library book standing packet = way_of library book (standing_for library book standing) packet

abbrev pub carried_with : Library → List Change → Standing → ℕ → Handed → Carried
carried_with library published standing count packet = record {
  count = count;
  handed = length packet.frame;
  traversal = traversal_of (way_over library (after (take count published)) standing packet);
}

abbrev pub standing_with : Library → List Change → Standing → ℕ → Handed → Standing
standing_with library published standing count packet =
    standing_behind standing (way_over library (after (take count published)) standing packet)

-- the packets of a processor, one after another
abbrev pub carried_from : Library → List Change → Standing → List HandIn → List ℕ → List Carried
carried_from library published standing (h ∷ hs) (count ∷ counts) =
    carried_with library published standing count h.packet
    ∷ carried_from library published (standing_with library published standing count h.packet) hs counts
carried_from library published standing _ _ = []

abbrev pub standing_from : Library → List Change → Standing → List HandIn → List ℕ → Standing
standing_from library published standing (h ∷ hs) (count ∷ counts) =
    standing_from library published (standing_with library published standing count h.packet) hs counts
standing_from library published standing _ _ = standing

-- by processor
abbrev pub carried_in : Library → List Change → List Standing → List (List HandIn) → List (List ℕ) → List (List Carried)
carried_in library published (standing ∷ standings) (hs ∷ hand_ins) (counts ∷ others) =
    carried_from library published standing hs counts ∷ carried_in library published standings hand_ins others
carried_in library published _ _ _ = []

abbrev pub standings_in : Library → List Change → List Standing → List (List HandIn) → List (List ℕ) → List Standing
standings_in library published (standing ∷ standings) (hs ∷ hand_ins) (counts ∷ others) =
    standing_from library published standing hs counts ∷ standings_in library published standings hand_ins others
standings_in library published _ _ _ = []

-- by phase, as far as the choices go
abbrev pub traversals : Library → List Standing → List Work → List (List (List ℕ)) → List (List (List Carried))
traversals library standings (work ∷ works) (counts ∷ choices) =
    carried_in library work.published standings work.hand_ins counts
    ∷ traversals library (standings_in library work.published standings work.hand_ins counts) works choices
traversals library standings _ _ = []
