use Rattle.std.proofs.Common.{◌≡◌, ◌∙◌, ap, sym}
use Rattle.std.specs.Map.{remove_entry}
use Rattle.filter_rules.proofs.Moving.{remove-at}
use Rattle.filter_rules.proofs.rule_table.RuleTable.drop_row.Goals as goal

pub returns : goal.returns
returns g c =
    let test = g.K.PartialEq.eq c.args.key.now in
    let rows = c.self.inside.rows.entries in
    let removed : c.swap.new.x.entries ≡ remove_entry test rows =
    ap (λ map. map.entries) c.swap.ensures.x_after ∙ c.move_others.ensures.moved
    ∙ remove-at test rows c.unwrap-place.result (sym c.get_index_of.ensures.index ∙ c.unwrap-place.ensures) in
    rw (← c.self.view_is) (λ i. record { rows = removed i; room = c.self.inside.room })
