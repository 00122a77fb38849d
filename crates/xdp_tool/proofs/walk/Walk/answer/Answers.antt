use Rattle.std.proofs.Common.{◌≡◌, ap, ◌∙◌}
use Rattle.xdp_state.specs.Answer.{answer}
use Rattle.xdp_state.specs.Book.{after}
use Rattle.xdp_state.specs.declared.judgement.Judgement.TheVariants.{Accepted, Refused}
use Rattle.xdp_tool.specs.Table.{table_of}
use Rattle.xdp_tool.proofs.walk.Walk.answer.Goals as goal

pub returns-in-Accepted-clause-goes : goal.returns-in-Accepted-clause-goes
returns-in-Accepted-clause-goes c = λ begun phase at same.
    let library = c.args.self.now.script.now.library in
    let command = c.args.command.now in
    let judged : Accepted c.in-Accepted.change ≡ answer library (after phase.work.published) command = c.in-Accepted.ensures.answer ∙ ap (λ book. answer library book command) same in
    rw (← judged) (c.accept.ensures.goes (table_of library command) begun phase at same)

pub returns-in-Refused-clause-goes : goal.returns-in-Refused-clause-goes
returns-in-Refused-clause-goes c = λ begun phase at same.
    let library = c.args.self.now.script.now.library in
    let command = c.args.command.now in
    let judged : Refused c.in-Refused.reason ≡ answer library (after phase.work.published) command = c.in-Refused.ensures.answer ∙ ap (λ book. answer library book command) same in
    rw (← judged) (c.refuse.ensures.goes (table_of library command) begun phase at same)
