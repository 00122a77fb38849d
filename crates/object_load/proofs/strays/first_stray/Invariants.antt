use Rattle.std.proofs.Common.{◌≡◌, ℕ, ◌<◌, false, get_or}
use Rattle.object_load.specs.Linking.{is_stray}
use Rattle.object_load.proofs.strays.first_stray.Given as goal

abbrev pub invariant-loop-slot : goal.invariant-loop-slot
invariant-loop-slot l = (k : ℕ) → k < l.slot → is_stray (get_or l.marks k false) l.insns l.own k ≡ false
