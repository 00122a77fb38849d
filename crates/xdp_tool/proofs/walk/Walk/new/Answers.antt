use Rattle.std.proofs.Common.{refl, sym, ◌∙◌, arith}
use Rattle.std.proofs.lemmas.List.{length-replicate}
use Rattle.xdp_tool.proofs.Walking.{steady-none}
use Rattle.xdp_tool.proofs.walk.Walk.new.Goals as goal

pub returns-clause-start : goal.returns-clause-start
returns-clause-start c = record {
  items = c.new.ensures.items;
  published = sym c.new-2.ensures.items;
  hand_ins = c.in_ok-no_hand_ins.ensures;
  packets = refl;
  refused = refl;
  taken = refl;
  rising = omega arith;
  steady = steady-none 0 0 c.args.processors;
  processors = length-replicate c.args.processors _ ∙ c.requires;
  open_still = refl;
}
