use Rattle.std.proofs.Common.{◌≡◌, List, ◌++◌, map, take}
use Rattle.xdp_state.specs.Sums.{Counted, counted, tally_of}
use Rattle.xdp_state.proofs.sums.add_packets.Given as goal

abbrev pub invariant-loop-packet : goal.invariant-loop-packet
invariant-loop-packet l =
    (before : List Counted) → l.initial.tally ≡ tally_of before → l.tally ≡ tally_of (before ++ map counted (take l.packet-index l.packets))
