use Rattle.std.proofs.Common.{◌≡◌, ◌≤◌, length}
use Rattle.btf_types.specs.Links.{AreLinks}
use Rattle.btf_types.proofs.link.lengthen.Given as goal

abbrev pub invariant-loop-place : goal.invariant-loop-place
invariant-loop-place l = record {
  links : AreLinks l.types l.links;
  known : length l.links ≤ length l.types.rows;
  same : length l.links ≡ length l.initial.links;
}
