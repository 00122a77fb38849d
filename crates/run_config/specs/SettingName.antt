-- The names of settings.
use Rattle.std.specs.Prelude.{ℕ, List, codes}
use Rattle.run_config.specs.declared.settings.Setting.{Setting}
use Rattle.run_config.specs.declared.settings.Setting.TheVariants.{Priority, GoesOn}
use Rattle.run_config.specs.Settings.{action_name}

abbrev pub setting_name : Setting → List ℕ
setting_name Priority = codes "priority"
setting_name (GoesOn action) = action_name action
