use Rattle.std.proofs.Common.{◌≡◌, drop}
use Rattle.xdp_tool.specs.Replay.{compared, packets_lines}
use Rattle.xdp_tool.proofs.replay.Replay.passes_packets.Given as goal

-- the lines that are left
abbrev pub invariant-loop-place : goal.invariant-loop-place
invariant-loop-place l = record {
  lines : compared (packets_lines l.processor l.place (drop l.place l.packets)) l.self.rest.now ≡ compared (packets_lines l.processor 0 l.packets) l.fn.self.rest.now;
  trace : l.self.trace.now ≡ l.fn.self.trace.now;
  lasts : l.self.lasts ≡ l.fn.self.lasts;
}
