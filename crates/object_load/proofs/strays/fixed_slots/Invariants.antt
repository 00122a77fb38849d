use Rattle.std.proofs.Common.{◌≡◌, ℕ, ◌<◌, false, get_or, take, vec_len}
use Rattle.object_load.specs.Linking.{fixes_in, is_fixed}
use Rattle.object_load.proofs.strays.fixed_slots.Given as goal

abbrev pub invariant-loop-reloc : goal.invariant-loop-reloc
invariant-loop-reloc l = record {
  len : vec_len l.marks ≡ l.own;
  marked : (slot : ℕ) → slot < l.own → get_or l.marks.items slot false ≡ is_fixed (fixes_in l.piece (take l.reloc-index l.relocs)) slot;
}
