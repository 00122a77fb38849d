use Rattle.std.proofs.Common.{◌-◌, ◌+◌, length}
use Rattle.btf_types.specs.Links.{Walked}
use Rattle.btf_types.specs.Scale.{IsBounded}
use Rattle.btf_types.proofs.types.Types.size_of.Given as goal

abbrev pub invariant-loop-steps : goal.invariant-loop-steps
invariant-loop-steps l = record {
  bounded : IsBounded l.scale;
  walked : Walked l.self l.number l.at l.steps l.scale;
}

abbrev pub decreases-loop-steps : goal.decreases-loop-steps
decreases-loop-steps l = length l.self.rows + 1 - l.steps
