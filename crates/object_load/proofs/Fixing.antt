-- Relocations that are applied one after another.
use Rattle.std.proofs.Common.{◌≡◌, ℕ, ◌+◌, ◌<◌, ◌≤◌, Option, None, Some, Result, Ok, Err, List, [], ◌∷◌, length, drop, get_or, refl, ap, ◌∙◌}
use Rattle.std.specs.List.{cons_option, filter_map}
use Rattle.std.specs.Option.{option_map}
use Rattle.std.proofs.lemmas.List.{drop_all, drop_more}
use Rattle.bpf_insn.specs.declared.insn.Insn.{Insn}
use Rattle.elf_objects.specs.declared.reloc.Reloc.{Reloc}
use Rattle.run_config.specs.declared.named_map.NamedMap.{NamedMap}
use Rattle.object_load.specs.declared.pieces.Piece.{Piece}
use Rattle.object_load.specs.Linking.{fix_at, fix_in, fixed, fixed_all, fixes_in, place_in}
use Rattle.object_load.specs.Reading.{and_then}

-- the fixes of one relocation, and of those behind it
fixes_here : (piece : Piece) (reloc : Reloc) (relocs : List Reloc) (place : Option ℕ) → place_in piece reloc.offset ≡ place → fixes_in piece (reloc ∷ relocs) ≡ cons_option (option_map (fix_at reloc) place) (fixes_in piece relocs)
unfolding fixes_in
fixes_here piece reloc relocs place is = ap (λ (o : Option ℕ). cons_option (option_map (fix_at reloc) o) (filter_map (fix_in piece) relocs)) is

fixes_none : (piece : Piece) → fixes_in piece [] ≡ []
unfolding fixes_in
fixes_none piece = refl

module _ (file : List ℕ) (maps : List NamedMap) (own : ℕ) (piece : Piece) (relocs : List Reloc) where
  -- what all relocations make of a code is what those from one on make of another
  abbrev pub IsLeft : ℕ → List Insn → Result (List Insn) ℕ → Type 0
  IsLeft i insns whole = whole ≡ fixed_all file maps own insns (fixes_in piece (drop i relocs))

  next : (i : ℕ) (d : Reloc) (place : Option ℕ) → i < length relocs → place_in piece (get_or relocs i d).offset ≡ place → fixes_in piece (drop i relocs) ≡ cons_option (option_map (fix_at (get_or relocs i d)) place) (fixes_in piece (drop (i + 1) relocs))
  next i d place known is = ap (fixes_in piece) (drop_more relocs i d known) ∙ fixes_here piece (get_or relocs i d) (drop (i + 1) relocs) place is

  -- a relocation that is no fix here is passed over
  pub left_other : (i : ℕ) (d : Reloc) (insns : List Insn) (whole : Result (List Insn) ℕ) → i < length relocs → place_in piece (get_or relocs i d).offset ≡ None → IsLeft i insns whole → IsLeft (i + 1) insns whole
  left_other i d insns whole known none so_far = so_far ∙ ap (λ fixes. fixed_all file maps own insns fixes) (next i d None known none)

  by_fix : (i : ℕ) (d : Reloc) (insns : List Insn) (whole one : Result (List Insn) ℕ) (place : ℕ) → i < length relocs → place_in piece (get_or relocs i d).offset ≡ Some place → fixed file maps own insns (fix_at (get_or relocs i d) place) ≡ one → IsLeft i insns whole → whole ≡ and_then one (λ changed. fixed_all file maps own changed (fixes_in piece (drop (i + 1) relocs)))
  by_fix i d insns whole one place known some is so_far =
      so_far ∙ ap (λ fixes. fixed_all file maps own insns fixes) (next i d (Some place) known some)
      ∙ ap (λ (r : Result (List Insn) ℕ). and_then r (λ changed. fixed_all file maps own changed (fixes_in piece (drop (i + 1) relocs)))) is

  -- a relocation is applied, or can't be
  pub left_next : (i : ℕ) (d : Reloc) (insns new : List Insn) (whole : Result (List Insn) ℕ) (place : ℕ) → i < length relocs → place_in piece (get_or relocs i d).offset ≡ Some place → fixed file maps own insns (fix_at (get_or relocs i d) place) ≡ Ok new → IsLeft i insns whole → IsLeft (i + 1) new whole
  left_next i d insns new whole place known some is so_far = by_fix i d insns whole (Ok new) place known some is so_far

  pub left_bad : (i : ℕ) (d : Reloc) (insns : List Insn) (whole : Result (List Insn) ℕ) (place slot : ℕ) → i < length relocs → place_in piece (get_or relocs i d).offset ≡ Some place → fixed file maps own insns (fix_at (get_or relocs i d) place) ≡ Err slot → IsLeft i insns whole → whole ≡ Err slot
  left_bad i d insns whole place slot known some is so_far = by_fix i d insns whole (Err slot) place known some is so_far

  -- all are applied
  pub left_none : (i : ℕ) (insns : List Insn) (whole : Result (List Insn) ℕ) → length relocs ≤ i → IsLeft i insns whole → whole ≡ Ok insns
  left_none i insns whole end so_far =
      so_far ∙ ap (λ fixes. fixed_all file maps own insns fixes) (ap (fixes_in piece) (drop_all i relocs end) ∙ fixes_none piece)
