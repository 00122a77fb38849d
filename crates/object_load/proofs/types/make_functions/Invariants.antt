use Rattle.std.proofs.Common.{take, Ok}
use Rattle.std.specs.List.{All}
use Rattle.run_config.specs.Values.{Paired}
use Rattle.object_load.specs.Symbols.{IsProgram}
use Rattle.object_load.specs.Types.{IsFunction}
use Rattle.object_load.proofs.types.make_functions.Given as goal

abbrev pub invariant-loop-index : goal.invariant-loop-index
invariant-loop-index l = record {
  each : Paired (λ index function. IsFunction l.object l.types index (Ok function)) (take l.index-index l.indexes) l.functions;
  programs : All (λ function. IsProgram l.object function.symbol) l.functions;
}
