use Rattle.std.proofs.Common.{◌∙◌, ap, sym}
use Rattle.filter_rules.specs.Rules.{rows_of}
use Rattle.filter_rules.proofs.Tables.{same_keys, on_ok-where, has_rule-table, clear_rule-table}
use Rattle.filter_rules.proofs.rules.Rules.remove.Goals as goal

pub returns-clause-rows : goal.returns-clause-rows
returns-clause-rows c =
    rw (← c.self.view_is) (on_ok-where c.remove.result _ c.remove.ensures.none.1 (λ there made. ap (λ table. rows_of table.rows) made ∙ clear_rule-table _ same_keys c.self.inside.table.rows c.args.key c.args.flags there) c.remove.ensures.rows)

pub returns-clause-none : goal.returns-clause-none
returns-clause-none c =
    let same = has_rule-table _ same_keys c.self.inside.table.rows c.args.key c.args.flags c.remove.ensures.different in
    rw (← c.self.view_is) (λ err. same ∙ c.remove.ensures.none.0 err, λ none. c.remove.ensures.none.1 (sym same ∙ none))
