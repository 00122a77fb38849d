use Rattle.std.proofs.Common.{◌∙◌, ap, sym}
use Rattle.filter_rules.proofs.Tables.{same_keys, answer_of, find-table}
use Rattle.filter_rules.proofs.rules.Rules.answering.Goals as goal

pub returns-in_err-value : goal.returns-in_err-value
returns-in_err-value c =
    let found = find-table _ same_keys c.self.inside.table.rows c.args.key c.args.flags c.get.ensures.different in
    rw (← c.self.view_is) (c.from_residual.ensures ∙ sym (found ∙ ap (answer_of c.args.flags) (sym c.get.ensures.value ∙ c.in_err-value.was)))

pub returns : goal.returns
returns c =
    let found = find-table _ same_keys c.self.inside.table.rows c.args.key c.args.flags c.get.ensures.different in
    rw (← c.self.view_is) (c.then_some.ensures ∙ sym (found ∙ ap (answer_of c.args.flags) (sym c.get.ensures.value ∙ c.in_ok-value.was)))
