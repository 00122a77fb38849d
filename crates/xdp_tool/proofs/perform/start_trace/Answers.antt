use Rattle.xdp_tool.proofs.perform.start_trace.Goals as goal

pub returns-then-traced-clause-text : goal.returns-then-traced-clause-text
returns-then-traced-clause-text g c = λ tells. rw c.if-traced.true (c.put.ensures.text tells)
