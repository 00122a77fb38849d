use Rattle.std.proofs.Common.{take}
use Rattle.run_config.specs.Given.{AreGiven}
use Rattle.run_config.specs.Variables.{parts_of}
use Rattle.run_config.proofs.map_definition.read_members.Given as goal

-- what the members so far give
abbrev pub invariant-loop-place : goal.invariant-loop-place
invariant-loop-place l = AreGiven l.types (take l.place (parts_of l.types l.structure)) l.given
