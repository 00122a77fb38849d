use Rattle.std.proofs.Common.{◌≡◌, drop}
use Rattle.xdp_tool.specs.Replay.{compared, processors_lines}
use Rattle.xdp_tool.proofs.replay.Replay.passes_processors.Given as goal

-- the lines that are left
abbrev pub invariant-loop-processor : goal.invariant-loop-processor
invariant-loop-processor l = record {
  lines : compared (processors_lines l.processor (drop l.processor l.carried)) l.self.rest.now ≡ compared (processors_lines 0 l.carried) l.fn.self.rest.now;
  trace : l.self.trace.now ≡ l.fn.self.trace.now;
  lasts : l.self.lasts ≡ l.fn.self.lasts;
}
