use Rattle.std.proofs.Common.{◌≡◌, length}
use Rattle.btf_types.specs.Links.{AreLinks}
use Rattle.btf_types.proofs.link.first_links.Given as goal

abbrev pub invariant-loop-place : goal.invariant-loop-place
invariant-loop-place l = record {
  links : AreLinks l.types l.links;
  known : length l.links ≡ l.place;
}
