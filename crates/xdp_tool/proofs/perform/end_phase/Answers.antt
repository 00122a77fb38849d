use Rattle.std.proofs.Common.{ap, refl, rules, sym, length, map, ◌∙◌}
use Rattle.xdp_tool.specs.Plan.{closed}
use Rattle.xdp_tool.specs.QueueView.{queue_of}
use Rattle.xdp_tool.specs.Queues.{queues_of}
use Rattle.xdp_tool.specs.Ran.{carried_by, last_counts}
use Rattle.xdp_tool.specs.declared.shown.Shown.{Shown}
use Rattle.xdp_tool.proofs.Ends.{line-known}
use Rattle.xdp_tool.proofs.perform.end_phase.Goals as goal

pub write_phase-requires-clause-waiting : goal.write_phase-requires-clause-waiting
write_phase-requires-clause-waiting g c =
    let s = c.requires.standing in
    (c.in-Ok.ensures.walks s.begun s.past s.standings s.phase s.stands).waiting

pub write_phase-requires-clause-ready : goal.write_phase-requires-clause-ready
write_phase-requires-clause-ready g c =
    let s = c.requires.standing in
    record {
      begun = s.begun.published;
      phase = closed c.args.barrier s.phase;
      past = s.past;
      carried = carried_by c.args.run.now.walk.script.now.library s.standings s.phase (last_counts c.close.new.choices);
      shows = c.in-Ok.ensures.shows s.begun s.past s.standings s.phase s.stands;
      is = c.in-Ok.ensures.closes s.begun s.past s.standings s.phase s.stands;
    }

pub write_phase-requires-clause-interfaces : goal.write_phase-requires-clause-interfaces
write_phase-requires-clause-interfaces g c =
    let s = c.requires.standing in
    rw ((c.in-Ok.ensures.walks s.begun s.past s.standings s.phase s.stands).library, c.close.ensures.same) c.requires.interfaces

pub returns-in-Ok-write_phase-clause-stands : goal.returns-in-Ok-write_phase-clause-stands
returns-in-Ok-write_phase-clause-stands g c = λ begun past standings phase stands.
    let walks = c.in-Ok.ensures.walks begun past standings phase stands in
    let shows = c.in-Ok.ensures.shows begun past standings phase stands in
    let is = c.in-Ok.ensures.closes begun past standings phase stands in
    let same = c.write_phase.ensures.same in
    record {
      walks = record {
        at = walks.at;
        state = walks.state;
        carrier = walks.carrier;
        standing = walks.standing;
        library = ap (λ (s : Shown). s.library.now) same ∙ walks.library;
        waiting = c.in-Ok-write_phase.ensures.waiting;
      };
      rests = record {
        earlier = past;
        carried = carried_by c.args.run.now.walk.script.now.library standings phase (last_counts c.close.new.choices);
        shows = record {
          rules = c.in-Ok-write_phase.ensures.book begun.published (closed c.args.barrier phase) past (carried_by c.args.run.now.walk.script.now.library standings phase (last_counts c.close.new.choices)) shows is;
          sums = ap (λ (s : Shown). s.sums) same ∙ shows.sums;
          queues = ap (λ (s : Shown). map queue_of s.queues) same ∙ (shows.queues ∙ sym (ap (λ (s : Shown). queues_of s.library.now.interfaces) same));
          processors = shows.processors ∙ sym (ap (λ (s : Shown). length (queues_of s.library.now.interfaces)) same);
        };
        counted = refl;
      };
    }

pub returns-in-Ok-write_phase-clause-out : goal.returns-in-Ok-write_phase-clause-out
returns-in-Ok-write_phase-clause-out g c = λ tells begun past standings phase stands.
    let walks = c.in-Ok.ensures.walks begun past standings phase stands in
    let shows = c.in-Ok.ensures.shows begun past standings phase stands in
    let is = c.in-Ok.ensures.closes begun past standings phase stands in
    rw (walks.library, c.close.ensures.same) at (c.in-Ok-write_phase.ensures.out tells begun.published (closed c.args.barrier phase) past (carried_by c.args.run.now.walk.script.now.library standings phase (last_counts c.close.new.choices)) shows is)

pub returns-in-Ok-write_phase-clause-trace : goal.returns-in-Ok-write_phase-clause-trace
returns-in-Ok-write_phase-clause-trace g c = λ tells begun past standings phase stands.
    let is = c.in-Ok.ensures.closes begun past standings phase stands in
    let numbered = c.in-Ok.ensures.numbered in
    rw (numbered.0, numbered.1, is.lists) at (c.in-Ok-write_phase.ensures.trace tells)

pub returns-in-Ok-write_phase-clause-ordered : goal.returns-in-Ok-write_phase-clause-ordered
returns-in-Ok-write_phase-clause-ordered g c = λ told tells begun past standings phase stands.
    let walks = c.in-Ok.ensures.walks begun past standings phase stands in
    let shows = c.in-Ok.ensures.shows begun past standings phase stands in
    let is = c.in-Ok.ensures.closes begun past standings phase stands in
    rw (walks.library, c.close.ensures.same) at (c.in-Ok-write_phase.ensures.ordered told tells begun.published (closed c.args.barrier phase) past (carried_by c.args.run.now.walk.script.now.library standings phase (last_counts c.close.new.choices)) shows is)

pub returns-clause-out : goal.returns-clause-out
returns-clause-out g c = λ tells begun past standings phase stands.
    let walks = c.in-Ok.ensures.walks begun past standings phase stands in
    let shows = c.in-Ok.ensures.shows begun past standings phase stands in
    let is = c.in-Ok.ensures.closes begun past standings phase stands in
    rw (walks.library, c.close.ensures.same) at (c.in-Err.ensures.out tells begun.published (closed c.args.barrier phase) past (carried_by c.args.run.now.walk.script.now.library standings phase (last_counts c.close.new.choices)) shows is)

pub returns-clause-trace : goal.returns-clause-trace
returns-clause-trace g c = λ tells begun past standings phase stands.
    let is = c.in-Ok.ensures.closes begun past standings phase stands in
    let numbered = c.in-Ok.ensures.numbered in
    rw (numbered.0, numbered.1, is.lists) at (c.in-Err.ensures.trace tells)

pub returns-clause-ordered : goal.returns-clause-ordered
returns-clause-ordered g c = λ told tells begun past standings phase stands.
    let walks = c.in-Ok.ensures.walks begun past standings phase stands in
    let shows = c.in-Ok.ensures.shows begun past standings phase stands in
    let is = c.in-Ok.ensures.closes begun past standings phase stands in
    rw (walks.library, c.close.ensures.same) at (c.in-Err.ensures.ordered told tells begun.published (closed c.args.barrier phase) past (carried_by c.args.run.now.walk.script.now.library standings phase (last_counts c.close.new.choices)) shows is)

pub returns-in-Err-Differs-clause-differs : goal.returns-in-Err-Differs-clause-differs
returns-in-Err-Differs-clause-differs g c = λ begun past standings phase line stands is.
    c.close.ensures.differs begun past standings phase line stands (line-known c.close.result c.in-Err-Differs.line line (search rules) is)
