use Rattle.std.proofs.Common.{Some, ap, rules, take, true}
use Rattle.xio.specs.Lent.{SinkSetting}
use Rattle.xdp_tool.specs.Sinks.{FillsFile}
use Rattle.xdp_tool.specs.Touched.{Makes}
use Rattle.xdp_tool.proofs.OneTrace.{fills-made, makes-failed, makes-none, makes-one, told-of, traced_made}
use Rattle.xdp_tool.proofs.Ordering.{none-whole}
use Rattle.xdp_tool.specs.Plan.{plan}
use Rattle.xdp_tool.specs.Traversed.{trace_for}
use Rattle.xdp_tool.proofs.traced.perform_into.Goals as goal

pub returns-in-Err-Failed-clause-makes : goal.returns-in-Err-Failed-clause-makes
returns-in-Err-Failed-clause-makes g c = λ tells.
    makes-failed (g.F.Files.told c.args.files.now) (g.F.Files.told c.make_file.new.self) c.args.name.now (rw c.in-Err-Failed.field-0-is at (c.in-Err-Failed.ensures.told_after tells))

pub returns-in-Err-OutOfMemory-clause-makes : goal.returns-in-Err-OutOfMemory-clause-makes
returns-in-Err-OutOfMemory-clause-makes g c = λ tells.
    makes-none (g.F.Files.told c.args.files.now) (g.F.Files.told c.make_file.new.self) (Some c.args.name.now) (rw c.in-Err-OutOfMemory.field-0-is at (c.in-Err-OutOfMemory.ensures.told_after tells))

pub returns-clause-makes : goal.returns-clause-makes
returns-clause-makes g c = λ tells.
    let closed : Makes (g.F.Files.told c.args.files.now) (g.F.Files.told c.close.new.self) (Some c.args.name.now) =
    makes-one (g.F.Files.told c.args.files.now) (g.F.Files.told c.make_file.new.self) (g.F.Files.told c.perform-result.new.trace.files.now) (g.F.Files.told c.close.new.self) c.args.name.now c.in-Ok.file c.perform-result.new.trace.file (c.in-Ok.ensures.told_after tells)
    (ap (λ (s : SinkSetting). s.file) c.perform-result.ensures.same_trace)
    (told-of _ _ _ tells (ap (λ (s : SinkSetting). s.told) c.perform-result.ensures.same_trace)) (c.close.ensures.same_told tells)
    in search (rules, closed)

pub returns-clause-trace : goal.returns-clause-trace
returns-clause-trace g c = λ tells.
    let fills = c.perform-result.ensures.trace tells in
    let closed : FillsFile (g.F.Files.told c.args.files.now) (g.F.Files.told c.close.new.self) (trace_for true c.args.performed.now.script.library (plan c.args.performed.now.script) c.perform-result.new.choices) c.perform-result.result c.args.name.now =
    fills-made (g.F.Files.told c.args.files.now) (g.F.Files.told c.make_file.new.self) (g.F.Files.told c.perform-result.new.trace.files.now) (g.F.Files.told c.close.new.self) (trace_for true c.args.performed.now.script.library (plan c.args.performed.now.script) c.perform-result.new.choices) c.args.name.now c.in-Ok.file c.perform-result.new.trace.file c.perform-result.result (c.in-Ok.ensures.told_after tells)
    (ap (λ (s : SinkSetting). s.file) c.perform-result.ensures.same_trace)
    (told-of _ _ _ tells (ap (λ (s : SinkSetting). s.told) c.perform-result.ensures.same_trace)) (c.close.ensures.same_told tells)
    fills.front fills.whole fills.all_flushed
    in search (rules, closed)

pub returns-in-Err-Failed-clause-ordered : goal.returns-in-Err-Failed-clause-ordered
returns-in-Err-Failed-clause-ordered g c = λ tells told.
    (0, rw (c.flush_early.ensures.same_held told) (none-whole c.args.performed.now.script.library (plan c.args.performed.now.script) _), search (rules, c.in-Err-Failed.ensures.told_after tells))

pub returns-in-Err-OutOfMemory-clause-ordered : goal.returns-in-Err-OutOfMemory-clause-ordered
returns-in-Err-OutOfMemory-clause-ordered g c = λ tells told.
    (0, rw (c.flush_early-in-Err-OutOfMemory.ensures.same_held told) (none-whole c.args.performed.now.script.library (plan c.args.performed.now.script) _), search (rules, c.in-Err-OutOfMemory.ensures.told_after tells))

pub returns-clause-ordered : goal.returns-clause-ordered
returns-clause-ordered g c = λ tells told.
    let ordered = c.perform-result.ensures.ordered told tells in
    let traced = traced_made (g.F.Files.told c.args.files.now) (g.F.Files.told c.make_file.new.self) (g.F.Files.told c.perform-result.new.trace.files.now) (g.F.Files.told c.close.new.self) (trace_for true c.args.performed.now.script.library (plan c.args.performed.now.script) (take ordered.0 c.perform-result.new.choices)) c.args.name.now c.in-Ok.file c.perform-result.new.trace.file (c.in-Ok.ensures.told_after tells)
    (ap (λ (s : SinkSetting). s.file) c.perform-result.ensures.same_trace)
    (told-of _ _ _ tells (ap (λ (s : SinkSetting). s.told) c.perform-result.ensures.same_trace)) (c.close.ensures.same_told tells) ordered.2
    in (ordered.0, ordered.1, search (rules, traced))
