-- Which slots relocations are in, and the first call that leads astray.
use Rattle.std.proofs.Common.{◌≡◌, ℕ, ◌+◌, ◌/◌, ◌<◌, Bool, true, false, ◌||◌, ◌==◌, Option, None, Some, List, [], ◌∷◌, ◌++◌, length, take, get_or, set, refl, sym, ap, ◌∙◌, inl, inr, arith}
use Rattle.std.specs.List.{cons_option}
use Rattle.std.specs.Option.{option_map, option_map_or}
use Rattle.std.proofs.lemmas.Bool.{cases_eq}
use Rattle.std.proofs.lemmas.Bool.Decides.{nat_tests}
use Rattle.std.proofs.lemmas.List.{get_or-set_other, get_or-set_same, take_more}
use Rattle.std.proofs.lemmas.List.Elements.{filter_map-append}
use Rattle.std.proofs.lemmas.List.Folds.{list_any-append}
use Rattle.bpf_insn.specs.declared.insn.Insn.{Insn}
use Rattle.elf_objects.specs.declared.reloc.Reloc.{Reloc}
use Rattle.elf_objects.proofs.Search.{find_none, find_some}
use Rattle.object_load.specs.declared.pieces.Piece.{Piece}
use Rattle.object_load.specs.Linking.{first_stray, fix_at, fix_in, fixes_in, is_fixed, is_stray, place_in, Fix}

or_true : (a : Bool) → (a || true) ≡ true
or_true true = refl
or_true false = refl

or_false : (a : Bool) → (a || false) ≡ a
or_false true = refl
or_false false = refl

-- a slot is that of a place, if there is one
abbrev in_slot : Option ℕ → ℕ → Bool
in_slot place slot = option_map_or (λ at. at / 8 == slot) place false

one_fixed : (reloc : Reloc) (place : Option ℕ) (slot : ℕ) → is_fixed (cons_option (option_map (fix_at reloc) place) []) slot ≡ in_slot place slot
unfolding is_fixed
one_fixed reloc None slot = refl
one_fixed reloc (Some at) slot = or_false (at / 8 == slot)

fixed-append : (a b : List Fix) (slot : ℕ) → is_fixed (a ++ b) slot ≡ (is_fixed a slot || is_fixed b slot)
unfolding is_fixed
fixed-append a b slot = list_any-append (λ (fix : Fix). fix.place / 8 == slot) a b

fixes-push : (piece : Piece) (relocs : List Reloc) (reloc : Reloc) → fixes_in piece (relocs ++ reloc ∷ []) ≡ fixes_in piece relocs ++ cons_option (fix_in piece reloc) []
unfolding fixes_in
fixes-push piece relocs reloc = filter_map-append (fix_in piece) relocs (reloc ∷ [])

fixed-push : (piece : Piece) (relocs : List Reloc) (reloc : Reloc) (place : Option ℕ) (slot : ℕ) → place_in piece reloc.offset ≡ place → is_fixed (fixes_in piece (relocs ++ reloc ∷ [])) slot ≡ (is_fixed (fixes_in piece relocs) slot || in_slot place slot)
fixed-push piece relocs reloc place slot is =
    ap (λ fixes. is_fixed fixes slot) (fixes-push piece relocs reloc)
    ∙ fixed-append (fixes_in piece relocs) (cons_option (fix_in piece reloc) []) slot
    ∙ ap (λ b. is_fixed (fixes_in piece relocs) slot || b)
    (ap (λ (o : Option ℕ). is_fixed (cons_option (option_map (fix_at reloc) o) []) slot) is ∙ one_fixed reloc place slot)

pub none_fixed : (piece : Piece) (slot : ℕ) → is_fixed (fixes_in piece []) slot ≡ false
unfolding fixes_in is_fixed
none_fixed piece slot = refl

module _ (piece : Piece) (relocs : List Reloc) (i : ℕ) (d : Reloc) (known : i < length relocs) where
  more : (place : Option ℕ) (slot : ℕ) → place_in piece (get_or relocs i d).offset ≡ place → is_fixed (fixes_in piece (take (i + 1) relocs)) slot ≡ (is_fixed (fixes_in piece (take i relocs)) slot || in_slot place slot)
  more place slot at =
      ap (λ rs. is_fixed (fixes_in piece rs) slot) (take_more relocs i d known) ∙ fixed-push piece (take i relocs) (get_or relocs i d) place slot at

  -- a relocation of another piece
  pub marks_kept : (marks : List Bool) (slot : ℕ) → place_in piece (get_or relocs i d).offset ≡ None → get_or marks slot false ≡ is_fixed (fixes_in piece (take i relocs)) slot → get_or marks slot false ≡ is_fixed (fixes_in piece (take (i + 1) relocs)) slot
  marks_kept marks slot none so_far = so_far ∙ sym (more None slot none ∙ or_false (is_fixed (fixes_in piece (take i relocs)) slot))

  -- its slot is marked
  pub marks_set : (marks : List Bool) (place slot : ℕ) → place / 8 < length marks → place_in piece (get_or relocs i d).offset ≡ Some place → get_or marks slot false ≡ is_fixed (fixes_in piece (take i relocs)) slot → get_or (set marks (place / 8) true) slot false ≡ is_fixed (fixes_in piece (take (i + 1) relocs)) slot
  marks_set marks place slot within at so_far =
      let before = is_fixed (fixes_in piece (take i relocs)) slot in
      elim (cases_eq slot (place / 8)) [
        | inl e ↦
            let here : (place / 8 == slot) ≡ true = grind (arith, nat_tests) in
            ap (λ k. get_or (set marks (place / 8) true) k false) e ∙ get_or-set_same marks (place / 8) true false within
            ∙ sym (more (Some place) slot at ∙ ap (λ b. before || b) here ∙ or_true before)
        | inr ne ↦
            let elsewhere : (place / 8 == slot) ≡ false = grind (arith, nat_tests) in
            get_or-set_other marks (place / 8) slot true false ne ∙ so_far
            ∙ sym (more (Some place) slot at ∙ ap (λ b. before || b) elsewhere ∙ or_false before)
      ]

module _ (fixes : List Fix) (marks : List Bool) (insns : List Insn) (own : ℕ) (same : (slot : ℕ) → slot < own → get_or marks slot false ≡ is_fixed fixes slot) where
  by_mark : (slot : ℕ) (b : Bool) → slot < own → is_stray (get_or marks slot false) insns own slot ≡ b → is_stray (is_fixed fixes slot) insns own slot ≡ b
  by_mark slot b known is = ap (λ fixed. is_stray fixed insns own slot) (sym (same slot known)) ∙ is

  pub stray_found : (slot : ℕ) → slot < own → ((k : ℕ) → k < slot → is_stray (get_or marks k false) insns own k ≡ false) → is_stray (get_or marks slot false) insns own slot ≡ true → Some slot ≡ first_stray fixes insns own
  unfolding first_stray
  stray_found slot known passed here =
      sym (find_some (λ k. is_stray (is_fixed fixes k) insns own k) own slot (λ k below. by_mark k false (omega arith) (passed k below)) known (by_mark slot true known here))

  pub no_stray : ((k : ℕ) → k < own → is_stray (get_or marks k false) insns own k ≡ false) → None ≡ first_stray fixes insns own
  unfolding first_stray
  no_stray passed = sym (find_none (λ k. is_stray (is_fixed fixes k) insns own k) own (λ k below. by_mark k false below (passed k below)))
