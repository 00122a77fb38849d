use Rattle.std.proofs.Common.{◌≤◌, length}
use Rattle.btf_types.specs.Links.{AreLinks}
use Rattle.btf_types.proofs.link.links_of.Given as goal

abbrev pub invariant-loop : goal.invariant-loop
invariant-loop l = record {
  links : AreLinks l.types l.links;
  known : length l.links ≤ length l.types.rows;
}
