-- A run, from turn to turn.
use Rattle.std.proofs.Common.{◌≡◌, List, length, ap, sym, ◌∙◌}
use Rattle.xdp_state.specs.Book.{after}
use Rattle.xdp_state.specs.Sums.{Past}
use Rattle.xdp_state.specs.Standing.{Standing}
use Rattle.xdp_state.specs.declared.library.Library.{Library}
use Rattle.xdp_tool.specs.Plan.{Phase}
use Rattle.xdp_tool.specs.Queues.{queues_of}
use Rattle.xdp_tool.specs.Ran.{Stands}
use Rattle.xdp_tool.specs.Walked.{Begun, IsAt}
use Rattle.xdp_tool.specs.declared.run.Run.{Run}
use Rattle.xdp_tool.specs.declared.shown.Shown.{Shown}
use Rattle.xdp_tool.specs.declared.prepared.Prepared.{Prepared}

-- a turn changes the walk and the state alone
pub stands-on : (old new : Run) (begun : Begun) (past : Past) (standings : List Standing) (phase next : Phase) → Stands old begun past standings phase → IsAt new.walk begun next → new.walk.script.now ≡ old.walk.script.now → new.state ≡ after next.work.published → new.carrier ≡ old.carrier → new.shown ≡ old.shown → new.buffer ≡ old.buffer → Stands new begun past standings next
stands-on old new begun past standings phase next stands at same state carrier shown buffer =
    let library = ap (λ (s : Prepared). s.library) (sym same) in
    record {
      walks = record {
        at = at;
        state = state;
        carrier = rw carrier stands.walks.carrier;
        standing = stands.walks.standing ∙ ap (λ (l : Library). length (queues_of l.interfaces)) library;
        library = ap (λ (s : Shown). s.library.now) shown ∙ (stands.walks.library ∙ library);
        waiting = buffer ∙ stands.walks.waiting;
      };
      rests = rw shown stands.rests;
    }
