use Rattle.std.proofs.Common.{◌≡◌, ◌+◌, drop, refl, sym, ap, ◌∙◌, arith}
use Rattle.xdp_state.specs.Book.{after, applied}
use Rattle.xdp_tool.specs.Plan.{phases_from}
use Rattle.xdp_tool.specs.Turn.{phase_after}
use Rattle.xdp_tool.proofs.Turns.{absorbed, applied-few, goes_on, moved-by, moved-on, turn-again, turn-ends, turn-goes_on, turn-hands, turn-publishes}
use Rattle.xdp_tool.proofs.Walks.{stands-on}
use Rattle.xdp_tool.proofs.run.Run.walk_phase.Goals as goal

pub turns-preserved-in-Publish : goal.turns-preserved-in-Publish
turns-preserved-in-Publish c =
    let inv = c.turns.invariant in
    let n = c.turns.self.walk.next in
    let script = c.args.self.now.walk.script.now in
    let moved : c.next.new.self.next ≡ n + 1 = moved-on _ _ _ _ c.in-Publish.is refl c.in_ok-change.ensures.moves in
    record {
      at = λ begun past standings first stands.
          let at = inv.at begun past standings first stands in
          let goes = rw inv.same at (c.in_ok-change.ensures.goes begun at.phase at.stands.walks.at at.stands.walks.state) in
          let next = phase_after script.library at.phase (drop n script.lines) in
          let step = turn-goes_on script.library at.phase script.lines n _ goes.0 (ap goes_on c.in-Publish.is) in
          record {
            phase = next;
            stands = stands-on c.turns.self _ begun past standings at.phase next at.stands goes.1 c.next.ensures.same
                (absorbed at.phase.work.published next.work.published c.in-Publish.change _ (c.absorb.ensures ∙ ap (λ b. applied b c.in-Publish.change) at.stands.walks.state) (turn-publishes script.library at.phase (drop n script.lines) c.in-Publish.change (sym c.in-Publish.is ∙ goes.0)))
                refl refl refl;
            phases = at.phases ∙ (step ∙ ap (λ m. phases_from script.library next (drop m script.lines)) (sym moved));
          };
      room = record { within = c.in_ok-change.ensures.within; published = omega (arith, moved, applied-few c.turns.self.state c.in-Publish.change, inv.room.published, ap (λ b. b.count) c.absorb.ensures); packets = c.in_ok-change.ensures.packets };
      later = omega (arith, moved, inv.later);
      same = c.next.ensures.same ∙ inv.same;
      replay = inv.replay;
    }

pub turns-preserved-in-HandIn : goal.turns-preserved-in-HandIn
turns-preserved-in-HandIn c =
    let inv = c.turns.invariant in
    let n = c.turns.self.walk.next in
    let script = c.args.self.now.walk.script.now in
    let moved : c.next.new.self.next ≡ n + 1 = moved-on _ _ _ _ c.in-HandIn.is refl c.in_ok-change.ensures.moves in
    record {
      at = λ begun past standings first stands.
          let at = inv.at begun past standings first stands in
          let goes = rw inv.same at (c.in_ok-change.ensures.goes begun at.phase at.stands.walks.at at.stands.walks.state) in
          let next = phase_after script.library at.phase (drop n script.lines) in
          let step = turn-goes_on script.library at.phase script.lines n _ goes.0 (ap goes_on c.in-HandIn.is) in
          record {
            phase = next;
            stands = stands-on c.turns.self _ begun past standings at.phase next at.stands goes.1 c.next.ensures.same
                (at.stands.walks.state ∙ ap after (sym (turn-hands script.library at.phase (drop n script.lines) _ (sym c.in-HandIn.is ∙ goes.0))))
                refl refl refl;
            phases = at.phases ∙ (step ∙ ap (λ m. phases_from script.library next (drop m script.lines)) (sym moved));
          };
      room = record { within = c.in_ok-change.ensures.within; published = omega (arith, moved, inv.room.published); packets = c.in_ok-change.ensures.packets };
      later = omega (arith, moved, inv.later);
      same = c.next.ensures.same ∙ inv.same;
      replay = inv.replay;
    }

pub turns-preserved : goal.turns-preserved
turns-preserved c =
    let inv = c.turns.invariant in
    let n = c.turns.self.walk.next in
    let script = c.args.self.now.walk.script.now in
    let moved : c.next.new.self.next ≡ n + 1 = moved-on _ _ _ _ c.in-Again.is refl c.in_ok-change.ensures.moves in
    record {
      at = λ begun past standings first stands.
          let at = inv.at begun past standings first stands in
          let goes = rw inv.same at (c.in_ok-change.ensures.goes begun at.phase at.stands.walks.at at.stands.walks.state) in
          let next = phase_after script.library at.phase (drop n script.lines) in
          let step = turn-goes_on script.library at.phase script.lines n _ goes.0 (ap goes_on c.in-Again.is) in
          record {
            phase = next;
            stands = stands-on c.turns.self _ begun past standings at.phase next at.stands goes.1 c.next.ensures.same
                (at.stands.walks.state ∙ ap after (sym (turn-again script.library at.phase (drop n script.lines) (sym c.in-Again.is ∙ goes.0))))
                refl refl refl;
            phases = at.phases ∙ (step ∙ ap (λ m. phases_from script.library next (drop m script.lines)) (sym moved));
          };
      room = record { within = c.in_ok-change.ensures.within; published = omega (arith, moved, inv.room.published); packets = c.in_ok-change.ensures.packets };
      later = omega (arith, moved, inv.later);
      same = c.next.ensures.same ∙ inv.same;
      replay = inv.replay;
    }

pub returns-in-End-clause-ends : goal.returns-in-End-clause-ends
returns-in-End-clause-ends c = λ begun past standings first stands.
    let inv = c.turns.invariant in
    let n = c.turns.self.walk.next in
    let script = c.args.self.now.walk.script.now in
    let at = inv.at begun past standings first stands in
    let goes = rw inv.same at (c.in_ok-change.ensures.goes begun at.phase at.stands.walks.at at.stands.walks.state) in
    let ends = turn-ends script.library at.phase script.lines script.lines n c.next.new.self.next c.in-End.barrier at.stands.walks.at.open_still (sym c.in-End.is ∙ goes.0)
    (λ line some. moved-by _ _ line _ _ c.in-End.is some c.in_ok-change.ensures.moves) in
    record {
      phase = at.phase;
      stands = stands-on c.turns.self _ begun past standings at.phase at.phase at.stands (rw ends.same at (goes.1)) c.next.ensures.same at.stands.walks.state refl refl refl;
      phases = rw (c.next.ensures.same, inv.same) (at.phases ∙ ends.phases);
    }

pub returns-in-End-clause-has_room : goal.returns-in-End-clause-has_room
returns-in-End-clause-has_room c = record {
  within = c.in_ok-change.ensures.within;
  published = omega (arith, c.next.ensures.later, c.turns.invariant.room.published);
  packets = c.in_ok-change.ensures.packets;
}
