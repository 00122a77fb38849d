use Rattle.std.proofs.Common.{◌∙◌, ap, sym, is_some}
use Rattle.filter_rules.proofs.Tables.{same_keys, has_row-table}
use Rattle.filter_rules.proofs.rules.Rules.contains.Goals as goal

pub returns : goal.returns
returns c = rw (← c.self.view_is) (c.is_some.ensures ∙ ap is_some c.get.ensures.value ∙ sym (has_row-table _ same_keys c.self.inside.table.rows c.args.key))
