use Rattle.std.proofs.Common.{◌≡◌, take}
use Rattle.std.specs.List.{flat_map, AllByRecursion}
use Rattle.bpf_insn.specs.Insn.{slot_bytes}
use Rattle.bpf_insn.proofs.Written.{InRange}
use Rattle.bpf_insn.proofs.encoding.encode.Given as goal

abbrev pub invariant-loop-insn : goal.invariant-loop-insn
invariant-loop-insn l = record {
  written : l.bytes ≡ flat_map slot_bytes (take l.insn-index l.insns);
  ranges : AllByRecursion InRange (take l.insn-index l.insns);
}
