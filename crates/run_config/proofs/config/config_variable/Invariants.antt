use Rattle.std.proofs.Common.{◌≡◌, drop}
use Rattle.run_config.specs.Variables.{parts_of}
use Rattle.run_config.proofs.FirstVariable.{first_among, is_for}
use Rattle.run_config.proofs.config.config_variable.Given as goal

-- what is left decides
abbrev pub invariant-loop-place : goal.invariant-loop-place
invariant-loop-place l =
    let entries = parts_of l.types l.section in
    first_among l.types (is_for l.types l.function) (drop l.place entries) ≡ first_among l.types (is_for l.types l.function) entries
