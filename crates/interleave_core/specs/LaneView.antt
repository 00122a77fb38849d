-- How a lane stands for the traffic of a processor.
use Rattle.std.specs.Prelude.{◌≤◌, length, take, drop}
use Rattle.interleave_core.specs.Traffic.{Traffic}
use Rattle.interleave_core.specs.declared.lane.Lane.TheInside.{Inside}

abbrev pub traffic_of : Inside → Traffic
traffic_of lane = record {
  handed = lane.hand_ins;
  carried = take (length lane.counts) lane.hand_ins;
  counts = lane.counts;
  queue = drop (length lane.counts) lane.hand_ins;
}

abbrev pub IsCounted : Inside → Type 0
IsCounted lane = length lane.counts ≤ length lane.hand_ins
