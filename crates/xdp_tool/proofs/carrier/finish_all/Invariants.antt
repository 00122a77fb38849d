use Rattle.std.proofs.Common.{◌≡◌, ◌++◌, List, drop, map, vec_len}
use Rattle.xdp_state.specs.Standing.{Standing}
use Rattle.xdp_tool.specs.Carrying.{AreIdleTo, AreStanding}
use Rattle.xdp_tool.specs.declared.processor.Processor.{Processor}
use Rattle.xdp_tool.proofs.carrier.finish_all.Given as goal

abbrev pub invariant-loop-place : goal.invariant-loop-place
invariant-loop-place l = record {
  carried : l.carried ++ map (λ (p : Processor). p.carried) (drop l.place l.processors.items) ≡ map (λ (p : Processor). p.carried) l.initial.processors.items;
  idle : (standings : List Standing) → AreStanding l.initial.processors.items standings → AreIdleTo l.place l.processors.items standings;
  processors : vec_len l.processors ≡ vec_len l.initial.processors;
}
