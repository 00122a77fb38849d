-- What the members made of a packet, with the frames that a dump keeps of it.
use Rattle.std.specs.Prelude.{◌≡◌, ◌≤◌, List, [], ◌∷◌, length, Option, vec_capacity}
use Rattle.xdp_state.specs.declared.dump.Captured.{Captured}
use Rattle.xdp_state.specs.declared.trail.Seen.{Seen}
use Rattle.xdp_state.specs.declared.trail.Trail.{Trail}
use Rattle.xdp_state.specs.declared.traversal.Visit.{Visit}

abbrev pub visit_of : Seen → Option Captured → Option Captured → Visit
visit_of seen entry exit = record {
  number = seen.number;
  kind = seen.kind;
  action = seen.action;
  cause = seen.cause;
  target = seen.target;
  rule = seen.rule;
  entry = entry;
  exit = exit;
}

abbrev pub visits_of : List Seen → List (Option Captured) → List (Option Captured) → List Visit
visits_of (seen ∷ more) (entry ∷ entries) (exit ∷ exits) = visit_of seen entry exit ∷ visits_of more entries exits
visits_of _ _ _ = []

abbrev pub visits_in : Trail → List Visit
visits_in trail = visits_of trail.seen.items trail.entries trail.exits

-- a frame at both sides of each member, and room for ten
pub record IsEven (trail : Trail) : Type 0 where
  pub entries : length trail.entries ≡ length trail.seen.items
  pub exits : length trail.exits ≡ length trail.seen.items
  pub room : 10 ≤ vec_capacity trail.seen
