-- A packet at one program.
use Rattle.std.specs.Prelude.{ℕ, Bool, List}
use Rattle.pcapng_text.specs.declared.packet_options.PacketOptions.{PacketOptions}
use Rattle.dump_capture.specs.declared.point.Point.{Point}

-- a point with its names and bytes
pub record PlainPoint : Type 0 where
  pub interface : List ℕ
  pub name : List ℕ
  pub exit : Bool
  pub snap : ℕ
  pub timestamp : ℕ
  pub length : ℕ
  pub kept : List ℕ
  pub options : PacketOptions

abbrev pub plain_of : Point → PlainPoint
plain_of point = record {
  interface = point.interface.now;
  name = point.name.now;
  exit = point.exit;
  snap = point.snap;
  timestamp = point.timestamp;
  length = point.length;
  kept = point.kept.now;
  options = point.options;
}
