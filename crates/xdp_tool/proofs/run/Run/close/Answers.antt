use Rattle.std.proofs.Common.{◌≡◌, ◌++◌, [], ◌∷◌, length, refl, sym, ap, ◌∙◌}
use Rattle.xdp_state.proofs.Counts.{count_after}
use Rattle.xdp_state.proofs.Joined.{length-joined}
use Rattle.xdp_state.specs.Sums.{Past, sums_of}
use Rattle.xdp_tool.specs.Ran.{AreLegalOf, carried_by, last_counts, standings_by}
use Rattle.xdp_tool.proofs.Choosing.{last-pushed}
use Rattle.xdp_tool.proofs.Due.{length-standings}
use Rattle.xdp_tool.proofs.Ends.{end-known}
use Rattle.xdp_tool.specs.declared.counts.CarryEnd.TheVariants.{Differs}
use Rattle.xdp_tool.proofs.run.Run.close.Goals as goal

pub returns-clause-closes : goal.returns-clause-closes
returns-clause-closes c = λ begun past standings phase stands.
    let at = stands.walks.at in
    let count = ap (λ b. b.count) stands.walks.state ∙ count_after phase.work.published at.taken in
    let carries = c.in-Ok.ensures.carries begun standings phase at stands.walks.carrier (stands.walks.standing ∙ sym at.processors) (c.count.ensures ∙ count) in
    let given = c.in_ok-items.ensures.given in
    record {
      barrier = refl;
      items = ap (λ v. v.items) given.0 ∙ at.items;
      published = ap (λ v. begun.published ++ v.items) given.1 ∙ sym at.published;
      taken = at.taken;
      rising = at.rising;
      lists = carries.lists ∙ ap (carried_by c.args.self.now.walk.script.now.library standings phase) (sym (last-pushed _ _ _ c.in_ok-push.ensures.ok));
    }

pub returns-clause-shows : goal.returns-clause-shows
returns-clause-shows c = λ begun past standings phase stands.
    let at = stands.walks.at in
    let rests = stands.rests in
    let count = ap (λ b. b.count) stands.walks.state ∙ count_after phase.work.published at.taken in
    let carries = c.in-Ok.ensures.carries begun standings phase at stands.walks.carrier (stands.walks.standing ∙ sym at.processors) (c.count.ensures ∙ count) in
    let lists : c.as_slice.result.now ≡ carried_by c.args.self.now.walk.script.now.library standings phase (last_counts c.push.new.self) =
    c.as_slice.ensures ∙ (carries.lists ∙ ap (carried_by c.args.self.now.walk.script.now.library standings phase) (sym (last-pushed _ _ _ c.in_ok-push.ensures.ok))) in
    record {
      rules = rests.shows.rules;
      sums = c.in_ok-add.ensures.sums rests.earlier rests.carried rests.shows.sums
          ∙ (ap (λ p. sums_of p c.as_slice.result.now) (sym rests.counted) ∙ ap (sums_of past) lists);
      queues = rests.shows.queues;
      processors = ap (λ (p : Past). length p.by_processor) rests.counted ∙ (length-joined rests.earlier.by_processor rests.carried ∙ rests.shows.processors);
    }

pub returns-clause-walks : goal.returns-clause-walks
returns-clause-walks c = λ begun past standings phase stands.
    let at = stands.walks.at in
    let hand_ins = stands.walks.standing ∙ sym at.processors in
    let count = ap (λ b. b.count) stands.walks.state ∙ count_after phase.work.published at.taken in
    let carries = c.in-Ok.ensures.carries begun standings phase at stands.walks.carrier hand_ins (c.count.ensures ∙ count) in
    let counts = last-pushed _ _ _ c.in_ok-push.ensures.ok in
    let many : length c.in-Ok.done.counts ≡ length phase.work.hand_ins = c.in-Ok.ensures.many ∙ ap length at.hand_ins in
    record {
      at = c.in_ok-items.ensures.opened begun phase at;
      state = stands.walks.state;
      carrier = rw counts carries.stands;
      standing = rw (c.open_next.ensures.same, counts) (length-standings c.args.self.now.walk.script.now.library phase.work.published standings phase.work.hand_ins _ hand_ins many ∙ stands.walks.standing);
      library = rw c.open_next.ensures.same stands.walks.library;
      waiting = stands.walks.waiting;
    }

pub returns-clause-chosen : goal.returns-clause-chosen
returns-clause-chosen c = c.in_ok-push.ensures.ok ∙ ap (λ counts. c.args.choices.now ++ counts ∷ []) (sym (last-pushed _ _ _ c.in_ok-push.ensures.ok))

pub returns-clause-legal : goal.returns-clause-legal
returns-clause-legal c = λ begun past standings phase lasts stands within has.
    let at = stands.walks.at in
    let count = ap (λ b. b.count) stands.walks.state ∙ count_after phase.work.published at.taken in
    rw (last-pushed _ _ _ c.in_ok-push.ensures.ok) (c.in-Ok.ensures.legal begun phase lasts at (c.count.ensures ∙ count) within has)

pub returns-clause-replays : goal.returns-clause-replays
returns-clause-replays c = λ begun past standings phase stands.
    let at = stands.walks.at in
    let count = ap (λ b. b.count) stands.walks.state ∙ count_after phase.work.published at.taken in
    rw (last-pushed _ _ _ c.in_ok-push.ensures.ok) (rw c.len-number.ensures at (c.in-Ok.ensures.replays begun standings phase at stands.walks.carrier (stands.walks.standing ∙ sym at.processors) (c.count.ensures ∙ count)))

pub returns-in-Err-clause-differs : goal.returns-in-Err-clause-differs
returns-in-Err-clause-differs c = λ begun past standings phase line stands is.
    let at = stands.walks.at in
    let count = ap (λ b. b.count) stands.walks.state ∙ count_after phase.work.published at.taken in
    rw c.len-number.ensures at (c.in-Err.ensures.differs begun standings phase line at stands.walks.carrier (stands.walks.standing ∙ sym at.processors) (c.count.ensures ∙ count) (end-known c.in-Err.stop (Differs line) is))
