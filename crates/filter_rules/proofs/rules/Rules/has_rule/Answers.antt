use Rattle.std.proofs.Common.{◌∙◌, ap, is_some}
use Rattle.filter_rules.specs.Rule.{answers}
use Rattle.filter_rules.proofs.Tables.{any-found}
use Rattle.filter_rules.proofs.rules.Rules.has_rule.Goals as goal

pub returns : goal.returns
returns c = c.is_some.ensures ∙ ap is_some c.answering.ensures ∙ any-found (answers c.args.key c.args.flags) (λ row. row.number) c.args.self.now
