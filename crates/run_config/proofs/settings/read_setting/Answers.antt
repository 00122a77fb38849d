use Rattle.run_config.proofs.SettingsLemmas.{if_none}
use Rattle.run_config.proofs.settings.read_setting.Goals as goal

pub returns-in_err-value-clause-none : goal.returns-in_err-value-clause-none
returns-in_err-value-clause-none c =
    if_none c.from_residual-in_err-value.result _ (λ setting sets. (let none = (c.in_err-value.ensures setting.value).1 sets.value in cc))
