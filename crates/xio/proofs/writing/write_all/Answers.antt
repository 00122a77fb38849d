use Rattle.std.proofs.Common.{rules, arith}
use Rattle.std.proofs.lemmas.Grind.{common_steps}
use Rattle.xio.proofs.Taken.{take-piece}
use Rattle.xio.proofs.writing.write_all.Goals as goal

pub loop-written-preserved : goal.loop-written-preserved
loop-written-preserved g c = record {
  within = search rules;
  held = λ told. grind (arith, common_steps, take-piece, c.loop-written.invariant.held told, c.in-Ok.ensures.bytes told);
  flushed = search rules;
  same_faults = search rules;
  same_setting = search rules;
}
