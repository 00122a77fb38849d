use Rattle.std.proofs.Common.{◌-◌, ◌+◌, length}
use Rattle.btf_types.specs.Links.{Passed}
use Rattle.btf_types.proofs.types.Types.resolve.Given as goal

abbrev pub invariant-loop-passed : goal.invariant-loop-passed
invariant-loop-passed l = Passed l.self l.number l.at l.passed

abbrev pub decreases-loop-passed : goal.decreases-loop-passed
decreases-loop-passed l = length l.self.rows + 1 - l.passed
