use Rattle.std.proofs.Common.{◌≡◌, take, Ok}
use Rattle.std.specs.List.{All}
use Rattle.run_config.specs.Values.{Paired}
use Rattle.object_load.specs.KnownMaps.{AreKnown}
use Rattle.object_load.specs.Linking.{program_of}
use Rattle.object_load.specs.Load.{IsRunnable}
use Rattle.object_load.proofs.linking.make_programs.Given as goal

abbrev pub invariant-loop-draft : goal.invariant-loop-draft
invariant-loop-draft l = record {
  each : Paired (λ draft program. Ok program ≡ program_of l.object l.maps draft) (take l.draft-index l.drafts) l.programs;
  runnable : All IsRunnable l.programs;
  known : AreKnown l.object l.maps l.known;
}
