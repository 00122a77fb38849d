use Rattle.std.proofs.Common.{◌≡◌, ◌+◌, ◌++◌, length, vec_capacity, vec_len}
use Rattle.xdp_state.proofs.machine.append.Given as goal

abbrev pub invariant-loop-store : goal.invariant-loop-store
invariant-loop-store l = record {
  items : l.stores.items ≡ l.initial.stores.items ++ l.yielded;
  len : vec_len l.stores ≡ vec_len l.initial.stores + length l.yielded;
  capacity : vec_capacity l.stores ≡ vec_capacity l.initial.stores;
}
