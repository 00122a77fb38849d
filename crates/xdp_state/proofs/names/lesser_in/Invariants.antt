use Rattle.std.proofs.Common.{◌≡◌, ◌+◌, ◌≤◌, ◌++◌, drop}
use Rattle.xdp_state.specs.Library.{lesser, names_of, programs_of}
use Rattle.xdp_state.proofs.names.lesser_in.Given as goal

abbrev pub invariant-loop-place : goal.invariant-loop-place
invariant-loop-place l = record {
  value : l.rank + lesser (names_of (drop l.place l.programs) ++ names_of (programs_of l.behind)) l.name
      ≡ lesser (names_of l.programs ++ names_of (programs_of l.behind)) l.name;
  within : l.rank ≤ l.place;
}
