use Rattle.std.proofs.Common.{◌≡◌, [], ◌∷◌, ◌++◌, Some, None, ap, append-nil}
use Rattle.command_line.specs.Names.{names_of}
use Rattle.xdp_tool.proofs.FilesRead.{reads-as, reads-both, reads-err, reads-front}
use Rattle.xdp_tool.proofs.Performing.{only-alone, only-both, script-alone, script-ended, trace-ended, with-trace}
use Rattle.xdp_tool.specs.Headline.{names_read}
use Rattle.xdp_tool.specs.Named.{name_of}
use Rattle.xdp_tool.specs.Touched.{calls_for}
use Rattle.xdp_tool.proofs.performance.read_performance.Goals as goal

pub returns-in-Err-clause-only : goal.returns-in-Err-clause-only
returns-in-Err-clause-only g c = λ tells performed is.
    script-ended (g.F.Files.told c.args.files.now).content (names_of c.args.named) performed c.in-Err.ending (c.in-Err.ensures.ended tells) is

pub returns-in-Err-clause-reads : goal.returns-in-Err-clause-reads
returns-in-Err-clause-reads g c = λ tells.
    reads-front _ _ (names_read (g.F.Files.told c.args.files.now).content c.args.named.script.now) (calls_for (names_of c.args.named).replay) c.in-Err.ending (c.in-Err.ensures.reads tells)

pub returns-in-Ok-trace_from-clause-loaded : goal.returns-in-Ok-trace_from-clause-loaded
returns-in-Ok-trace_from-clause-loaded g c = λ tells.
    let content = (g.F.Files.told c.args.files.now).content in
    let some : (names_of c.args.named).replay ≡ Some c.in-Some.replay.now = ap name_of c.in-Some.is in
    with-trace (names_of c.args.named) content c.in-Ok.script c.in-Some.replay.now c.in-Ok-trace_from.trace some (c.in-Ok.ensures.loaded tells) (rw (c.in-Ok.ensures.reads tells).unmade.content at (c.in-Ok-trace_from.ensures.trace tells))

pub returns-in-Ok-trace_from-clause-only : goal.returns-in-Ok-trace_from-clause-only
returns-in-Ok-trace_from-clause-only g c = λ tells performed is.
    let content = (g.F.Files.told c.args.files.now).content in
    let some : (names_of c.args.named).replay ≡ Some c.in-Some.replay.now = ap name_of c.in-Some.is in
    only-both content (names_of c.args.named) c.in-Ok.script c.in-Some.replay.now c.in-Ok-trace_from.trace performed some (c.in-Ok.ensures.loaded tells) (c.in-Ok.ensures.only tells) (rw (c.in-Ok.ensures.reads tells).unmade.content at (c.in-Ok-trace_from.ensures.trace tells)) is

pub returns-in-Ok-trace_from-clause-reads : goal.returns-in-Ok-trace_from-clause-reads
returns-in-Ok-trace_from-clause-reads g c = λ tells.
    let names = names_read (g.F.Files.told c.args.files.now).content c.args.named.script.now in
    rw c.in-Some.is (reads-as _ _ (names ++ c.in-Some.replay.now ∷ []) c.in-Ok-trace_from.trace _ (reads-both (g.F.Files.told c.args.files.now) (g.F.Files.told c.prepare.new.files) (g.F.Files.told c.trace_from.new.files) names (c.in-Some.replay.now ∷ []) c.in-Ok.script _ (c.in-Ok.ensures.reads tells) (c.in-Ok-trace_from.ensures.reads tells)))

pub returns-in-Err-trace_from-clause-only : goal.returns-in-Err-trace_from-clause-only
returns-in-Err-trace_from-clause-only g c = λ tells performed is.
    let content = (g.F.Files.told c.args.files.now).content in
    let some : (names_of c.args.named).replay ≡ Some c.in-Some.replay.now = ap name_of c.in-Some.is in
    trace-ended content (names_of c.args.named) c.in-Ok.script c.in-Some.replay.now performed c.in-Err-trace_from.ending some (c.in-Ok.ensures.loaded tells) (rw (c.in-Ok.ensures.reads tells).unmade.content at (c.in-Err-trace_from.ensures.trace tells)) is

pub returns-in-Err-trace_from-clause-reads : goal.returns-in-Err-trace_from-clause-reads
returns-in-Err-trace_from-clause-reads g c = λ tells.
    let names = names_read (g.F.Files.told c.args.files.now).content c.args.named.script.now in
    rw c.in-Some.is (reads-err _ _ (names ++ c.in-Some.replay.now ∷ []) c.in-Err-trace_from.ending (reads-both (g.F.Files.told c.args.files.now) (g.F.Files.told c.prepare.new.files) (g.F.Files.told c.trace_from.new.files) names (c.in-Some.replay.now ∷ []) c.in-Ok.script _ (c.in-Ok.ensures.reads tells) (c.in-Err-trace_from.ensures.reads tells)))

pub returns-in_default-clause-loaded : goal.returns-in_default-clause-loaded
returns-in_default-clause-loaded g c = λ tells.
    let none : (names_of c.args.named).replay ≡ None = ap name_of c.in_default.is in
    script-alone (names_of c.args.named) (g.F.Files.told c.args.files.now).content c.in-Ok.script none (c.in-Ok.ensures.loaded tells)

pub returns-in_default-clause-only : goal.returns-in_default-clause-only
returns-in_default-clause-only g c = λ tells performed is.
    let none : (names_of c.args.named).replay ≡ None = ap name_of c.in_default.is in
    only-alone (g.F.Files.told c.args.files.now).content (names_of c.args.named) c.in-Ok.script performed none (c.in-Ok.ensures.loaded tells) (c.in-Ok.ensures.only tells) is

pub returns-in_default-clause-reads : goal.returns-in_default-clause-reads
returns-in_default-clause-reads g c = λ tells.
    let names = names_read (g.F.Files.told c.args.files.now).content c.args.named.script.now in
    rw (c.in_default.is, append-nil names) (reads-as (g.F.Files.told c.args.files.now) (g.F.Files.told c.prepare.new.files) names c.in-Ok.script _ (c.in-Ok.ensures.reads tells))
