use Rattle.std.proofs.Common.{sym}
use Rattle.run_config.proofs.MapBreaks.{makeable-add}
use Rattle.run_config.proofs.named_map.add_map.Goals as goal

pub returns-clause-makeable : goal.returns-clause-makeable
returns-clause-makeable c =
    makeable-add c.args.maps.now c.push.new.self c.args.map c.in_ok-push.ensures.ok c.requires.makeable c.requires.initial (sym c.in_default.ensures)
