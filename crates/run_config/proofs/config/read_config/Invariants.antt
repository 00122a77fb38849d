use Rattle.std.proofs.Common.{take}
use Rattle.run_config.specs.Config.{HasSettings}
use Rattle.run_config.specs.Variables.{parts_of}
use Rattle.run_config.proofs.config.read_config.Given as goal

-- the members so far set what the configuration says
abbrev pub invariant-loop-place : goal.invariant-loop-place
invariant-loop-place l = HasSettings l.types (take l.place (parts_of l.types l.structure)) l.config
