use Rattle.std.proofs.Common.{rules}
use Rattle.xio.specs.Prefixes.{AppendsPrefix}
use Rattle.xdp_tool.specs.PhaseEnd.{PutsText}
use Rattle.xdp_tool.specs.Trace.{traced_text}
use Rattle.xdp_tool.proofs.Writing.{cut-short, passed-on}
use Rattle.xdp_tool.proofs.write.write_trace.Goals as goal

pub returns-in-Ok-clause-text : goal.returns-in-Ok-clause-text
returns-in-Ok-clause-text g c = λ tells.
    let put : PutsText c.pass_on.result (g.T.Sink.held c.args.trace.now) (g.T.Sink.held c.pass_on.new.sink) (traced_text c.args.traced c.args.closed.now.number c.args.closed.now.barrier c.args.closed.now.carried) =
    rw c.if-not-traced.false
    (passed-on _ _ _ _ _ _ _ _ _ _ _ _ _ _ _ c.pass_on.result c.requires.waiting c.in-Ok.ensures c.pass_on.ensures.prints c.pass_on.ensures.empty tells)
    in search (rules, put)

pub returns-in-Err-clause-text : goal.returns-in-Err-clause-text
returns-in-Err-clause-text g c = λ tells.
    let put : AppendsPrefix (g.T.Sink.held c.args.trace.now) (g.T.Sink.held c.phase_trace_print-printed.new.printer.sink.now) (traced_text c.args.traced c.args.closed.now.number c.args.closed.now.barrier c.args.closed.now.carried) =
    rw c.if-not-traced.false
    (cut-short _ _ _ _ _ _ _ _ _ _ _ c.requires.waiting c.in-Err.ensures tells)
    in (put.0, search (rules, put.1))
