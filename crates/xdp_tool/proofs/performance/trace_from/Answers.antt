use Rattle.xdp_tool.proofs.FilesRead.{reads-part, reads-wanting, reads-whole}
use Rattle.xdp_tool.proofs.performance.trace_from.Goals as goal

pub returns-in-Ok-clause-reads : goal.returns-in-Ok-clause-reads
returns-in-Ok-clause-reads g c = λ tells.
    reads-whole (g.F.Files.handles c.args.files.now) _ _ _ c.trace_in.result (c.in-Ok.ensures.asked tells)

pub returns-in-Err-ReadFault-clause-reads : goal.returns-in-Err-ReadFault-clause-reads
returns-in-Err-ReadFault-clause-reads g c = λ tells.
    let asks = rw c.in-Err-ReadFault.field-0-is at (c.in-Err-ReadFault.ensures.asked tells) in reads-part (g.F.Files.handles c.args.files.now) _ _ _ asks.0 _ asks.1

pub returns-in-Err-TooLarge-clause-reads : goal.returns-in-Err-TooLarge-clause-reads
returns-in-Err-TooLarge-clause-reads g c = λ tells.
    let asks = rw c.in-Err-TooLarge.field-0-is at (c.in-Err-TooLarge.ensures.asked tells) in reads-part (g.F.Files.handles c.args.files.now) _ _ _ asks.0 _ asks.1

pub returns-clause-reads : goal.returns-clause-reads
returns-clause-reads g c = λ tells.
    reads-wanting (g.F.Files.handles c.args.files.now) _ _ _ _ (rw c.in-Err-OutOfMemory.field-0-is at (c.in-Err-OutOfMemory.ensures.asked tells))
