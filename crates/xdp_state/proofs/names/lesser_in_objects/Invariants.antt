use Rattle.std.proofs.Common.{◌≡◌, ◌+◌, ◌≤◌, drop, length}
use Rattle.xdp_state.specs.Library.{lesser, names_of, programs_of}
use Rattle.xdp_state.proofs.names.lesser_in_objects.Given as goal

abbrev pub invariant-loop-place : goal.invariant-loop-place
invariant-loop-place l = record {
  value : l.rank + lesser (names_of (programs_of (drop l.place l.objects))) l.name ≡ lesser (names_of (programs_of l.objects)) l.name;
  within : l.rank + length (programs_of (drop l.place l.objects)) ≤ length (programs_of l.objects);
}
