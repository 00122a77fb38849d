use Rattle.xdp_tool.proofs.Running.{puts-whole}
use Rattle.xdp_tool.proofs.write.write_phase.Goals as goal

pub returns-clause-out : goal.returns-clause-out
returns-clause-out g c = λ tells begun phase past carried shows is.
    puts-whole c.write_trace.result _ _ _ (c.in_ok-write_out.ensures.text tells begun phase past carried shows is)
