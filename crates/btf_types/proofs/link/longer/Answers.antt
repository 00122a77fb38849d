use Rattle.btf_types.proofs.link.longer.Goals as goal

pub returns : goal.returns
returns c = record {
  walk = c.then.ensures c.args.types.now c.args.number c.link_in-link.ensures.walk c.link_in.ensures.walk;
  pass = c.then-2.ensures c.args.types.now c.args.number c.link_in-link.ensures.pass c.link_in-2.ensures.pass;
}
