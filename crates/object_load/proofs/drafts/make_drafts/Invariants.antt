use Rattle.std.proofs.Common.{take, Ok}
use Rattle.std.specs.List.{All}
use Rattle.run_config.specs.Values.{Paired}
use Rattle.object_load.specs.Code.{IsDraft, IsReady}
use Rattle.object_load.proofs.drafts.make_drafts.Given as goal

abbrev pub invariant-loop-function : goal.invariant-loop-function
invariant-loop-function l = record {
  each : Paired (λ function draft. IsDraft l.object function (Ok draft)) (take l.function-index l.functions) l.drafts;
  ready : All (IsReady l.object) l.drafts;
}
