use Rattle.object_load.specs.KnownMaps.{AreKnown}
use Rattle.object_load.specs.Linking.{fixed_all, fixes_in}
use Rattle.object_load.proofs.Fixing.{IsLeft}
use Rattle.object_load.proofs.fixes.fix_all.Given as goal

abbrev pub invariant-loop-reloc : goal.invariant-loop-reloc
invariant-loop-reloc l = record {
  left : IsLeft l.object l.maps l.own l.piece l.relocs l.reloc-index l.insns (fixed_all l.object l.maps l.own l.initial.insns (fixes_in l.piece l.relocs));
  known : AreKnown l.object l.maps l.known;
}
