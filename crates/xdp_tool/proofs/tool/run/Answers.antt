use Rattle.std.proofs.Common.{◌∙◌, inl, inr, Ok}
use Rattle.command_line.specs.Names.{names_of}
use Rattle.xdp_tool.specs.Headline.{names_by}
use Rattle.xdp_tool.specs.Named.{name_of}
use Rattle.xdp_tool.specs.Outcome.{Whole, library_of, phases_of}
use Rattle.xdp_tool.proofs.FilesRead.{taken-still}
use Rattle.xdp_tool.proofs.OneTrace.{begun-all, begun-none, leaves-none, leaves-trace, touches-both, touches-nothing, touches-read, touches-wanted, traced-all, traced-none, unmade-still}
use Rattle.xdp_tool.proofs.Ordering.{none-whole}
use Rattle.xdp_tool.proofs.Telling.{decided-by, decided-early, explained-by, explained-early, flushed-ended, holds-early, holds-ended, leaves-early, leaves-out, words-early}
use Rattle.xdp_tool.proofs.tool.run.Goals as goal

pub returns-clause-decided : goal.returns-clause-decided
returns-clause-decided g c = λ tells decided script is.
    rw (c.in-Ok-read_performance.ensures.only tells script (rw c.in-Ok.ensures.names at is), c.ending_of.ensures)
    (decided-by c.in-Ok-read_performance.performed c.work.new.choices c.work.result c.work.ensures.performed (rw c.ending_of.ensures at decided))

pub returns-clause-explained : goal.returns-clause-explained
returns-clause-explained g c = λ tells script is.
    rw (c.in-Ok-read_performance.ensures.only tells script (rw c.in-Ok.ensures.names at is), c.ending_of.ensures)
    (explained-by c.in-Ok-read_performance.performed c.work.new.choices c.work.result c.work.ensures.performed)

pub returns-clause-out : goal.returns-clause-out
returns-clause-out g c = λ tells told script is.
    rw (c.in-Ok-read_performance.ensures.only tells script (rw c.in-Ok.ensures.names at is), c.ending_of.ensures)
    (leaves-out g.O.Sink.held g.O.Sink.flushed c.args.out.now c.work.new.out _ c.work.result (c.work.ensures.out told))

pub returns-clause-flushed : goal.returns-clause-flushed
returns-clause-flushed g c = λ told. rw c.ending_of.ensures (flushed-ended c.work.result (c.work.ensures.out told).all_flushed)

pub returns-clause-trace : goal.returns-clause-trace
returns-clause-trace g c = λ tells script is.
    rw (c.in-Ok-read_performance.ensures.only tells script (rw c.in-Ok.ensures.names at is), c.in-Ok.ensures.names, c.ending_of.ensures)
    (leaves-trace (g.F.Files.told c.args.files.now) (g.F.Files.told c.read_performance.new.files) (g.F.Files.told c.work.new.files) _ c.work.result (name_of c.in-Ok.named.trace) (c.read_performance.ensures.reads tells).unmade (c.work.ensures.trace tells))

pub returns-clause-ordered : goal.returns-clause-ordered
returns-clause-ordered g c = λ tells told script is.
    rw (c.in-Ok-read_performance.ensures.only tells script (rw c.in-Ok.ensures.names at is), c.in-Ok.ensures.names)
    (let ordered = c.work.ensures.ordered tells told in (
      ordered.0,
      ordered.1,
      traced-all (g.F.Files.told c.args.files.now) (g.F.Files.told c.read_performance.new.files) (g.F.Files.told c.work.new.files) _ (name_of c.in-Ok.named.trace) (c.read_performance.ensures.reads tells).unmade ordered.2,
    ))

pub returns-clause-read_first : goal.returns-clause-read_first
returns-clause-read_first g c = λ tells.
    rw c.in-Ok.ensures.names
    (inl (
      record {
        taken = taken-still (g.F.Files.told c.args.files.now) (g.F.Files.told c.read_performance.new.files) (g.F.Files.told c.work.new.files) _ (name_of c.in-Ok.named.trace) (c.in-Ok-read_performance.ensures.reads tells).whole (c.work.ensures.makes tells);
        no_fault = c.work.ensures.same_read_faults ∙ c.in-Ok-read_performance.ensures.same_read_faults;
      },
      c.in-Ok-read_performance.performed,
      c.in-Ok-read_performance.ensures.loaded tells,
    ))

pub returns-clause-begun : goal.returns-clause-begun
returns-clause-begun g c = λ tells.
    rw c.in-Ok.ensures.names
    (begun-all _ (g.F.Files.told c.args.files.now) (g.F.Files.told c.read_performance.new.files) (g.F.Files.told c.work.new.files) (name_of c.in-Ok.named.trace) (c.read_performance.ensures.reads tells).unmade (c.work.ensures.begun tells))

pub returns-clause-touched : goal.returns-clause-touched
returns-clause-touched g c = λ tells.
    rw c.in-Ok.ensures.names
    (touches-wanted _ _ _ _ (Ok (names_of c.in-Ok.named)) _ c.in-Ok-read_performance.performed (c.in-Ok-read_performance.ensures.loaded tells) (touches-both (g.F.Files.told c.args.files.now) (g.F.Files.told c.read_performance.new.files) (g.F.Files.told c.work.new.files) _ c.read_performance.result (name_of c.in-Ok.named.trace) (c.read_performance.ensures.reads tells) (c.work.ensures.makes tells)))

pub returns-in-Err-read_performance-clause-ordered : goal.returns-in-Err-read_performance-clause-ordered
returns-in-Err-read_performance-clause-ordered g c = λ tells told script is.
    (0, rw (c.flush_early-in-Err-read_performance.ensures.same_held told) (none-whole (library_of script) (phases_of script Whole) _), traced-none _ _ _ _ (c.read_performance.ensures.reads tells).unmade)

pub returns-in-Err-read_performance-clause-decided : goal.returns-in-Err-read_performance-clause-decided
returns-in-Err-read_performance-clause-decided g c = λ tells decided script is.
    decided-early script c.in-Err-read_performance.ending (c.in-Err-read_performance.ensures.only tells script (rw c.in-Ok.ensures.names at is)) decided

pub returns-in-Err-read_performance-clause-explained : goal.returns-in-Err-read_performance-clause-explained
returns-in-Err-read_performance-clause-explained g c = λ tells script is.
    explained-early script c.in-Err-read_performance.ending c.args.choices.now c.requires.none (c.in-Err-read_performance.ensures.only tells script (rw c.in-Ok.ensures.names at is))

pub returns-in-Err-read_performance-clause-out : goal.returns-in-Err-read_performance-clause-out
returns-in-Err-read_performance-clause-out g c = λ tells told script is.
    leaves-early g.O.Sink.held c.args.out.now c.flush_early-in-Err-read_performance.new.out script c.in-Err-read_performance.ending c.args.choices.now (c.in-Err-read_performance.ensures.only tells script (rw c.in-Ok.ensures.names at is)) (c.flush_early-in-Err-read_performance.ensures.same_held told)

pub returns-in-Err-read_performance-clause-trace : goal.returns-in-Err-read_performance-clause-trace
returns-in-Err-read_performance-clause-trace g c = λ tells script is.
    leaves-none _ _ _ _ _ c.in-Err-read_performance.ensures.failed (c.read_performance.ensures.reads tells).unmade

pub returns-in-Err-read_performance-clause-read_first : goal.returns-in-Err-read_performance-clause-read_first
returns-in-Err-read_performance-clause-read_first g c = λ tells.
    inr ((c.requires.none, c.flush_early-in-Err-read_performance.ensures.same_held), (c.read_performance.ensures.reads tells).unmade)

pub returns-in-Err-read_performance-clause-begun : goal.returns-in-Err-read_performance-clause-begun
returns-in-Err-read_performance-clause-begun g c = λ tells. begun-none _ _ _ _ (c.requires.none, c.flush_early-in-Err-read_performance.ensures.same_held)

pub returns-in-Err-read_performance-clause-touched : goal.returns-in-Err-read_performance-clause-touched
returns-in-Err-read_performance-clause-touched g c = λ tells. rw c.in-Ok.ensures.names (touches-read _ _ _ c.read_performance.result _ (c.read_performance.ensures.reads tells))

pub returns-in-Err-clause-read_first : goal.returns-in-Err-clause-read_first
returns-in-Err-clause-read_first g c = λ tells.
    inr ((c.requires.none, c.flush_early.ensures.same_held), unmade-still (g.F.Files.told c.args.files.now))

pub returns-in-Err-clause-begun : goal.returns-in-Err-clause-begun
returns-in-Err-clause-begun g c = λ tells. begun-none _ _ _ _ (c.requires.none, c.flush_early.ensures.same_held)

pub returns-in-Err-clause-touched : goal.returns-in-Err-clause-touched
returns-in-Err-clause-touched g c = λ tells. touches-nothing _ _ _

pub returns-in-Err-clause-ordered : goal.returns-in-Err-clause-ordered
returns-in-Err-clause-ordered g c = λ tells told script is.
    (0, rw (c.flush_early.ensures.same_held told) (none-whole (library_of script) (phases_of script Whole) _), traced-none (g.F.Files.told c.args.files.now) (g.F.Files.told c.args.files.now) _ _ (unmade-still (g.F.Files.told c.args.files.now)))

pub returns-in-Err-clause-decided : goal.returns-in-Err-clause-decided
returns-in-Err-clause-decided g c = λ tells decided script is.
    decided-early script c.in-Err.ending (words-early _ _ script c.in-Err.ending c.in-Err.ensures.names is) decided

pub returns-in-Err-clause-explained : goal.returns-in-Err-clause-explained
returns-in-Err-clause-explained g c = λ tells script is.
    explained-early script c.in-Err.ending c.args.choices.now c.requires.none (words-early _ _ script c.in-Err.ending c.in-Err.ensures.names is)

pub returns-in-Err-clause-out : goal.returns-in-Err-clause-out
returns-in-Err-clause-out g c = λ tells told script is.
    leaves-early g.O.Sink.held c.args.out.now c.flush_early.new.out script c.in-Err.ending c.args.choices.now (words-early _ _ script c.in-Err.ending c.in-Err.ensures.names is) (c.flush_early.ensures.same_held told)

pub returns-in-Err-clause-trace : goal.returns-in-Err-clause-trace
returns-in-Err-clause-trace g c = λ tells script is.
    leaves-none _ _ _ _ _ c.in-Err.ensures.failed (unmade-still (g.F.Files.told c.args.files.now))

pub returns-clause-trace_whole : goal.returns-clause-trace_whole
returns-clause-trace_whole g c = λ tells whole script is.
    rw (c.in-Ok-read_performance.ensures.only tells script (rw c.in-Ok.ensures.names at is))
    (holds-ended (names_by c.args.words.now) c.in-Ok-read_performance.performed (g.F.Files.told c.read_performance.new.files) (g.F.Files.told c.work.new.files) c.work.new.choices c.work.result (rw c.ending_of.ensures at whole) (rw c.in-Ok.ensures.names (c.work.ensures.trace tells)))

pub returns-in-Err-read_performance-clause-trace_whole : goal.returns-in-Err-read_performance-clause-trace_whole
returns-in-Err-read_performance-clause-trace_whole g c = λ tells whole script is.
    holds-early (names_by c.args.words.now) script c.in-Err-read_performance.ending (g.F.Files.told c.read_performance.new.files) c.args.choices.now (c.in-Err-read_performance.ensures.only tells script (rw c.in-Ok.ensures.names at is)) whole

pub returns-in-Err-clause-trace_whole : goal.returns-in-Err-clause-trace_whole
returns-in-Err-clause-trace_whole g c = λ tells whole script is.
    holds-early (names_by c.args.words.now) script c.in-Err.ending (g.F.Files.told c.args.files.now) c.args.choices.now (words-early _ _ script c.in-Err.ending c.in-Err.ensures.names is) whole
