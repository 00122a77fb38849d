-- A packet in its buffer.
use Rattle.std.specs.Prelude.{ℕ, ◌+◌, List, ◌++◌, length, replicate, slice_range}
use Rattle.bpf_machine.specs.State.{Packet}

-- as it is put there, with 256 bytes of zero in front of it and behind it
abbrev pub filled : List ℕ → Packet
filled bytes = record {
  buffer = replicate 256 0 ++ (bytes ++ replicate 256 0);
  data_start = 256;
  data_end = 256 + length bytes;
}

abbrev pub bytes_in : Packet → List ℕ
bytes_in packet = slice_range packet.buffer packet.data_start packet.data_end
