use Rattle.std.proofs.Common.{◌∙◌, ap, sym}
use Rattle.std.proofs.lemmas.List.{length-map}
use Rattle.filter_rules.specs.Rules.{rows_of}
use Rattle.filter_rules.proofs.Tables.{same_keys, on_ok-then, if_ok-same, has_row-table, number_of-table, set_rule-table}
use Rattle.filter_rules.proofs.rules.Rules.add.Goals as goal

pub returns-clause-rows : goal.returns-clause-rows
returns-clause-rows c =
    rw (← c.self.view_is) (on_ok-then c.add.result (λ made. ap (λ table. rows_of table.rows) made ∙ set_rule-table _ same_keys c.self.inside.table.rows c.args.key c.args.flags c.args.number) c.add.ensures.rows)

pub returns-clause-number : goal.returns-clause-number
returns-clause-number c =
    rw (← c.self.view_is) (if_ok-same c.add.result _ _ (sym (number_of-table _ same_keys c.self.inside.table.rows c.args.key c.args.number)) c.add.ensures.number)

pub returns-clause-full : goal.returns-clause-full
returns-clause-full c =
    let there = has_row-table _ same_keys c.self.inside.table.rows c.args.key in
    let long = length-map c.self.inside.table.rows _ in
    rw (← c.self.view_is) (
      λ err. let full = c.add.ensures.full.0 err in (there ∙ full.0, long ∙ full.1 ∙ c.self.invariant),
      λ full. c.add.ensures.full.1 (sym there ∙ full.0, sym long ∙ full.1 ∙ sym c.self.invariant),
    )
