use Rattle.std.proofs.Common.{◌≡◌, refl, ap, ◌∙◌, sym, true}
use Rattle.xdp_tool.specs.Ending.{line_of, status_of}
use Rattle.xdp_tool.specs.Headline.{is_decided, is_end, is_whole}
use Rattle.xdp_tool.specs.Outcome.{Whole, ending_after}
use Rattle.xdp_tool.proofs.Judged.{end-decided, replayed-differs, replayed-run}
use Rattle.xdp_tool.proofs.Telling.{decided-told, explained-told, said-told, told-decided, told-end, told-whole, trace-front, trace-whole}
use Rattle.xdp_tool.proofs.tool.run_tool.Goals as goal

pub returns-clause-err_told : goal.returns-clause-err_told
returns-clause-err_told g c = λ told known script is.
    let by_end : is_decided (status_of c.tell.result) ≡ true → c.tell.result ≡ ending_after script = λ decided.
    let same = told-decided c.tell.result c.run-ending.result c.tell.ensures.same decided in
    same ∙ c.run-ending.ensures.decided (known (ap is_decided c.ended_so.ensures.status ∙ decided)) (sym (ap (λ e. is_decided (status_of e)) same) ∙ decided) script is in
    rw (c.ended_so.ensures.status, said-told script c.tell.result by_end) (c.tell.ensures.said told)

pub returns-clause-explained : goal.returns-clause-explained
returns-clause-explained g c = λ tells script is. (
  Whole,
  rw (c.ended_so.ensures.status, c.ended_so.ensures.choices) (explained-told _ _ c.tell.result c.run-ending.result c.tell.ensures.same (c.run-ending.ensures.explained tells script is)),
  rw c.ended_so.ensures.choices (λ told. (c.run-ending.ensures.out tells told script is).front),
  rw c.ended_so.ensures.choices (trace-front _ _ _ _ _ (c.run-ending.ensures.trace tells script is)),
)

pub returns-clause-traced : goal.returns-clause-traced
returns-clause-traced g c = λ tells ended script is.
    rw c.ended_so.ensures.choices (trace-whole _ _ _ _ _ (told-end c.tell.result c.run-ending.result c.tell.ensures.same (sym (ap is_end c.ended_so.ensures.status) ∙ ended)) (c.run-ending.ensures.trace tells script is))

pub returns-clause-ordered : goal.returns-clause-ordered
returns-clause-ordered g c = λ tells told script is. rw c.ended_so.ensures.choices (c.run-ending.ensures.ordered tells told script is)

pub returns-clause-trace_whole : goal.returns-clause-trace_whole
returns-clause-trace_whole g c = λ tells whole script is.
    rw c.ended_so.ensures.choices (c.run-ending.ensures.trace_whole tells (told-whole c.tell.result c.run-ending.result c.tell.ensures.same (sym (ap is_whole c.ended_so.ensures.status) ∙ whole)) script is)

pub returns-clause-replayed : goal.returns-clause-replayed
returns-clause-replayed g c = λ tells ended.
    let over = sym (ap is_end c.ended_so.ensures.status) ∙ ended in
    rw c.ended_so.ensures.choices (replayed-run _ _ (status_of c.tell.result) (line_of c.tell.result) c.run-ending.new.choices Whole
    (λ script is. decided-told script c.tell.result c.run-ending.result c.tell.ensures.same (λ decided. c.run-ending.ensures.decided tells decided script is) (end-decided (status_of c.tell.result) over))
    (λ script is. explained-told script c.run-ending.new.choices c.tell.result c.run-ending.result c.tell.ensures.same (c.run-ending.ensures.explained tells script is)) over)

pub returns-clause-differs : goal.returns-clause-differs
returns-clause-differs g c = λ tells six.
    let is_six = sym c.ended_so.ensures.status ∙ six in
    replayed-differs _ _ (line_of c.tell.result) (λ script is.
    rw is_six at (decided-told script c.tell.result c.run-ending.result c.tell.ensures.same (λ decided. c.run-ending.ensures.decided tells decided script is) (rw is_six refl)))
