use Rattle.std.proofs.Common.{◌≡◌, ◌∙◌, false, None, is_some, subst, sym}
use Rattle.std.specs.Map.{lookup}
use Rattle.indexmap.proofs.CallerLemmas.{insert_entry-new}
use Rattle.filter_rules.specs.Table.{is_there}
use Rattle.filter_rules.proofs.Moving.{none_at}
use Rattle.filter_rules.proofs.rule_table.RuleTable.push.Goals as goal

pub returns-clause-rows : goal.returns-clause-rows
returns-clause-rows g c =
    let eq = g.K.PartialEq.eq in
    let absent = subst (λ table. is_there eq table.rows c.args.key ≡ false) (sym c.self.view_is) c.requires in
    let none = none_at (lookup (eq c.args.key) c.self.inside.rows.entries) absent in
    let made = (rw c.unwrap.ensures at c.insert.ensures.entries) ∙ insert_entry-new eq c.self.inside.rows c.args.key c.args.value none in
    rw (← c.self.view_is) (λ i. record { rows = made i; room = c.self.inside.room })
