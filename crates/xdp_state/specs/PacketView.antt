-- How a packet stands for what is handed in, and the size of its frame.
use Rattle.std.specs.Prelude.{◌≤◌, length}
use Rattle.xdp_state.specs.Handed.{Handed}
use Rattle.xdp_state.specs.declared.packet.Packet.TheInside.{Inside}

abbrev pub view_of : Inside → Handed
view_of packet = record { id = packet.id; timestamp = packet.timestamp; frame = packet.frame }

pub record IsSized (packet : Inside) : Type 0 where
  pub least : 14 ≤ length packet.frame
  pub most : length packet.frame ≤ 15872
