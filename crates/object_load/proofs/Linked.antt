-- A code stays one that can be written, whatever relocations make of it.
use Rattle.std.proofs.Common.{◌≡◌, ℕ, zero, suc, ℤ, pos, ◌+◌, ◌/◌, ◌%◌, Bool, true, false, cond, ◌&&◌, ◌==◌, ◌⊎◌, inl, inr, Option, None, Some, Result, Ok, Err, List, [], ◌∷◌, length, add-one, refl, sym, ap, ◌∙◌, subst, arith}
use Rattle.std.proofs.lemmas.Bool.Decides.{nat_tests}
use Rattle.std.specs.List.{slice_get, slice_set}
use Rattle.std.specs.Option.{ok_or, option_and_then, option_map, option_map_or}
use Rattle.bpf_insn.specs.declared.insn.Insn.{Insn}
use Rattle.bpf_insn.specs.Form.{wide_load}
use Rattle.bpf_insn.specs.Code.{Continues, IsCode, TakesAnyImm}
use Rattle.bpf_insn.proofs.Immediates.{any_imm}
use Rattle.elf_objects.specs.declared.reloc.Reloc.{Reloc}
use Rattle.elf_objects.specs.declared.symbol.Symbol.{Symbol}
use Rattle.elf_objects.specs.Symbol.{symbol}
use Rattle.map_store.specs.Initial.{AreMakeable}
use Rattle.run_config.specs.declared.named_map.NamedMap.{NamedMap}
use Rattle.run_config.specs.Maps.{specs_of}
use Rattle.object_load.specs.declared.pieces.Piece.TheVariants.{Own, Text}
use Rattle.object_load.specs.Sections.{text}
use Rattle.object_load.specs.Linking.{fixes_in, relocs_for, text_relocs, address, changed, changed_by, distance, first_stray, fixed, fixed_all, immediate, is_local_call, is_wide_load, linked, own_fixes, program_of, program_with, refuse_at, text_fixes, with_imm, Fix}
use Rattle.elf_objects.specs.Object.{section_name, symbol_name}
use Rattle.object_load.specs.declared.refusal.SlotEnd.{SlotEnd}
use Rattle.object_load.specs.declared.refusal.SlotEnd.TheVariants as slots
use Rattle.object_load.specs.Reading.{and_then, AnswersAt}
use Rattle.object_load.specs.declared.drafts.Draft.{Draft}
use Rattle.object_load.specs.declared.program.Program.{Program}
use Rattle.object_load.specs.Code.{IsReady}
use Rattle.object_load.specs.Load.{IsRunnable}

both : (a b : Bool) → (a && b) ≡ true → (a ≡ true) × (b ≡ true)
both true b h = (refl, h)
both false b h = absurd (cc)

-- behind a wide load stands its half
half_behind : (wide : Bool) (insns : List Insn) (place : ℕ) (insn : Insn) → slice_get insns place ≡ Some insn → insn.opcode ≡ 24 → Continues wide insns → (next : Insn) × (slice_get insns (suc place) ≡ Some next) × (next.half ≡ true)
half_behind wide [] place insn here is code = absurd (cc)
half_behind true (first ∷ rest) zero insn here is code =
    let same : first ≡ insn = cc in
    let none : first.opcode ≡ 0 = code.1.opcode in
    absurd (omega (arith, ap (λ (i : Insn). i.opcode) same))
half_behind false (first ∷ []) zero insn here is code =
    let same : first ≡ insn = cc in
    let wide : (first.opcode == 24) ≡ true = ap (λ (i : Insn). i.opcode == 24) same ∙ ap (λ n. n == 24) is in
    let behind : Continues true [] = subst (λ b. Continues b []) wide code.2 in
    absurd (cc)
half_behind false (first ∷ next ∷ rest) zero insn here is code =
    let same : first ≡ insn = cc in
    let wide : (first.opcode == 24) ≡ true = ap (λ (i : Insn). i.opcode == 24) same ∙ ap (λ n. n == 24) is in
    let behind : Continues true (next ∷ rest) = subst (λ b. Continues b (next ∷ rest)) wide code.2 in
    (next, refl, behind.0)
half_behind true (first ∷ rest) (suc place) insn here is code = half_behind false rest place insn here is code.2
half_behind false (first ∷ rest) (suc place) insn here is code = half_behind (first.opcode == wide_load) rest place insn here is code.2

with_imm-at : (insns : List Insn) (slot : ℕ) (insn : Insn) (imm : ℤ) → slice_get insns slot ≡ Some insn → with_imm insns slot imm ≡ slice_set insns slot (record insn { imm = imm })
unfolding with_imm
with_imm-at insns slot insn imm here = ap (λ (o : Option Insn). option_map_or (λ (one : Insn). slice_set insns slot (record one { imm = imm })) o insns) here

slice_get-set_next : {X : Type 0} (xs : List X) (i : ℕ) (x : X) → slice_get (slice_set xs i x) (suc i) ≡ slice_get xs (suc i)
slice_get-set_next [] i x = refl
slice_get-set_next (y ∷ ys) zero x = refl
slice_get-set_next (y ∷ ys) (suc i) x = slice_get-set_next ys i x

imm-code : (insns : List Insn) (slot : ℕ) (insn : Insn) (imm : ℤ) → slice_get insns slot ≡ Some insn → TakesAnyImm insn → IsCode insns → IsCode (with_imm insns slot imm)
imm-code insns slot insn imm here takes code = subst IsCode (sym (with_imm-at insns slot insn imm here)) (any_imm insns slot insn imm here takes code)

wide-opcode : (insn : Insn) → is_wide_load insn ≡ true → insn.opcode ≡ 24
unfolding is_wide_load
wide-opcode insn is = let op = both (insn.opcode == 24) (insn.source == 0) is in let first : (insn.opcode == 24) ≡ true = op.0 in grind (arith, nat_tests)

call-opcode : (insn : Insn) → is_local_call insn ≡ true → insn.opcode ≡ 133
unfolding is_local_call
call-opcode insn is = let op = both (insn.opcode == 133) (insn.source == 1) is in let first : (insn.opcode == 133) ≡ true = op.0 in grind (arith, nat_tests)

wide-code : (insns : List Insn) (slot : ℕ) (insn : Insn) (imm : ℤ) → slice_get insns slot ≡ Some insn → insn.opcode ≡ 24 → IsCode insns → IsCode (with_imm (with_imm insns slot imm) (slot + 1) (pos 0))
wide-code insns slot insn imm here op code =
    let behind = half_behind false insns slot insn here op code in
    let is = with_imm-at insns slot insn imm here in
    let there : slice_get (with_imm insns slot imm) (suc slot) ≡ Some behind.0 = ap (λ (xs : List Insn). slice_get xs (suc slot)) is ∙ slice_get-set_next insns slot (record insn { imm = imm }) ∙ behind.1 in
    let first = imm-code insns slot insn imm here (inr (inl op)) code in
    rw add-one (imm-code (with_imm insns slot imm) (suc slot) behind.0 (pos 0) there (inr (inr behind.2)) first)

changed-code : (insns : List Insn) (slot : ℕ) (insn : Insn) (imm : ℤ) (wide : Bool) → is_wide_load insn ≡ wide → slice_get insns slot ≡ Some insn → (is_wide_load insn ≡ true) ⊎ (is_local_call insn ≡ true) → IsCode insns → IsCode (changed insns slot insn imm)
unfolding changed
changed-code insns slot insn imm true is here kind code =
    subst IsCode (sym (ap (λ b. cond b (with_imm (with_imm insns slot imm) (slot + 1) (pos 0)) (with_imm insns slot imm)) is)) (wide-code insns slot insn imm here (wide-opcode insn is) code)
changed-code insns slot insn imm false is here (inl wide) code = absurd (cc)
changed-code insns slot insn imm false is here (inr call) code =
    subst IsCode (sym (ap (λ b. cond b (with_imm (with_imm insns slot imm) (slot + 1) (pos 0)) (with_imm insns slot imm)) is)) (imm-code insns slot insn imm here (inl (call-opcode insn call)) code)

-- what made a code
chosen : (a b c d : Bool) (x y : Option ℤ) (imm : ℤ) → cond (a && b) x (cond (c && d) y None) ≡ Some imm → (b ≡ true) ⊎ (d ≡ true)
chosen true true c d x y imm h = inl refl
chosen true false true true x y imm h = inr refl
chosen true false true false x y imm h = absurd (cc)
chosen true false false d x y imm h = absurd (cc)
chosen false b true true x y imm h = inr refl
chosen false b true false x y imm h = absurd (cc)
chosen false b false d x y imm h = absurd (cc)

immediate-kind : (file : List ℕ) (maps : List NamedMap) (own slot : ℕ) (reloc : Reloc) (insn : Insn) (imm : ℤ) → immediate file maps own slot reloc insn ≡ Some imm → (is_wide_load insn ≡ true) ⊎ (is_local_call insn ≡ true)
unfolding immediate
immediate-kind file maps own slot reloc insn imm is =
    chosen (reloc.kind == 1) (is_wide_load insn) (reloc.kind == 10) (is_local_call insn) (address file maps reloc.symbol insn.imm) (distance file own (symbol file reloc.symbol) slot insn.imm) imm is

ok_or_made : {X : Type 0} (o : Option X) (slot : ℕ) (x : X) → ok_or o slot ≡ Ok x → o ≡ Some x
ok_or_made None slot x h = absurd (cc)
ok_or_made (Some y) slot x h = cc

made_by : (b : Bool) (at : Option Insn) (change : Insn → Option (List Insn)) (slot : ℕ) (code : List Insn) → ok_or (cond b (option_and_then change at) None) slot ≡ Ok code → (insn : Insn) × (at ≡ Some insn) × (change insn ≡ Some code)
made_by true (Some insn) change slot code h = (insn, refl, ok_or_made (change insn) slot code h)
made_by true None change slot code h = absurd (cc)
made_by false at change slot code h = absurd (cc)

mapped : (f : ℤ → List Insn) (o : Option ℤ) (code : List Insn) → option_map f o ≡ Some code → (imm : ℤ) × (o ≡ Some imm) × (f imm ≡ code)
mapped f None code h = absurd (cc)
mapped f (Some imm) code h = (imm, refl, cc)

fixed-code : (file : List ℕ) (maps : List NamedMap) (own : ℕ) (insns : List Insn) (fix : Fix) (code : List Insn) → fixed file maps own insns fix ≡ Ok code → IsCode insns → IsCode code
unfolding fixed
fixed-code file maps own insns fix code is can =
    let slot = fix.place / 8 in
    let made = made_by (fix.place % 8 == 0) (slice_get insns slot) (changed_by file maps own insns slot fix.reloc) slot code is in
    let imm = mapped (changed insns slot made.0) (immediate file maps own slot fix.reloc made.0) code made.2 in
    subst IsCode imm.2 (changed-code insns slot made.0 imm.0 (is_wide_load made.0) refl made.1 (immediate-kind file maps own slot fix.reloc made.0 imm.0 imm.1) can)

-- what follows from a value
went_on : {A B : Type 0} (r : Result A ℕ) (next : A → Result B ℕ) (b : B) → and_then r next ≡ Ok b → (a : A) × (r ≡ Ok a) × (next a ≡ Ok b)
went_on (Ok a) next b h = (a, refl, h)
went_on (Err e) next b h = absurd (cc)

fixed_all-code : (file : List ℕ) (maps : List NamedMap) (own : ℕ) (insns : List Insn) (fixes : List Fix) (code : List Insn) → fixed_all file maps own insns fixes ≡ Ok code → IsCode insns → IsCode code
fixed_all-code file maps own insns [] code is can = let same : insns ≡ code = cc in subst IsCode same can
fixed_all-code file maps own insns (fix ∷ fixes) code is can =
    let step = went_on (fixed file maps own insns fix) (λ changed. fixed_all file maps own changed fixes) code is in
    fixed_all-code file maps own step.0 fixes code step.2 (fixed-code file maps own insns fix step.0 step.1 can)

not_refused : (o : Option ℕ) (code other : List Insn) → refuse_at o code ≡ Ok other → code ≡ other
not_refused None code other h = cc
not_refused (Some slot) code other h = absurd (cc)

pub linked-code : (file : List ℕ) (maps : List NamedMap) (s : Symbol) (insns code : List Insn) → linked file maps s insns ≡ Ok code → IsCode insns → IsCode code
unfolding linked
linked-code file maps s insns code is can =
    let own = s.size / 8 in
    let first = went_on (fixed_all file maps own insns (own_fixes file s)) (λ changed. and_then (fixed_all file maps own changed (text_fixes file s)) (λ linked. refuse_at (first_stray (own_fixes file s) linked own) linked)) code is in
    let second = went_on (fixed_all file maps own first.0 (text_fixes file s)) (λ linked. refuse_at (first_stray (own_fixes file s) linked own) linked) code first.2 in
    let same = not_refused (first_stray (own_fixes file s) second.0 own) second.0 code second.2 in
    subst IsCode same (fixed_all-code file maps own first.0 (text_fixes file s) second.0 second.1 (fixed_all-code file maps own insns (own_fixes file s) first.0 first.1 can))

-- the fixes of a program, as the code has their relocations
own_by : (file : List ℕ) (s : Symbol) (relocs : List Reloc) → relocs ≡ relocs_for file s.section → fixes_in (Own s.value s.size) relocs ≡ own_fixes file s
unfolding own_fixes
own_by file s relocs is = ap (fixes_in (Own s.value s.size)) is

text_by : (file : List ℕ) (s : Symbol) (relocs : List Reloc) (size : ℕ) → relocs ≡ text_relocs file → size ≡ length (text file) → fixes_in (Text s.size size) relocs ≡ text_fixes file s
unfolding text_fixes
text_by file s relocs size is long = ap (λ (n : ℕ). fixes_in (Text s.size n) relocs) long ∙ ap (fixes_in (Text s.size (length (text file)))) is

-- the steps of linking, with the relocations that the code has
module _ (file : List ℕ) (maps : List NamedMap) (s : Symbol) (insns begun : List Insn) (relocs : List Reloc) (same : begun ≡ insns) (is : relocs ≡ relocs_for file s.section) where
  after_own : (first : Result (List Insn) ℕ) → first ≡ fixed_all file maps (s.size / 8) begun (fixes_in (Own s.value s.size) relocs) → linked file maps s insns ≡ and_then first (λ changed. and_then (fixed_all file maps (s.size / 8) changed (text_fixes file s)) (λ code. refuse_at (first_stray (own_fixes file s) code (s.size / 8)) code))
  unfolding linked
  after_own first own =
      ap (λ (r : Result (List Insn) ℕ). and_then r (λ changed. and_then (fixed_all file maps (s.size / 8) changed (text_fixes file s)) (λ code. refuse_at (first_stray (own_fixes file s) code (s.size / 8)) code)))
      (sym (own ∙ ap (λ (code : List Insn). fixed_all file maps (s.size / 8) code (fixes_in (Own s.value s.size) relocs)) same ∙ ap (fixed_all file maps (s.size / 8) insns) (own_by file s relocs is)))

  pub refused_own : (slot : ℕ) → Err slot ≡ fixed_all file maps (s.size / 8) begun (fixes_in (Own s.value s.size) relocs) → Err slot ≡ linked file maps s insns
  refused_own slot own = sym (after_own (Err slot) own)

  module _ (changed : List Insn) (others : List Reloc) (size : ℕ) (own : Ok changed ≡ fixed_all file maps (s.size / 8) begun (fixes_in (Own s.value s.size) relocs)) (are : others ≡ text_relocs file) (long : size ≡ length (text file)) where
    after_text : (second : Result (List Insn) ℕ) → second ≡ fixed_all file maps (s.size / 8) changed (fixes_in (Text s.size size) others) → linked file maps s insns ≡ and_then second (λ code. refuse_at (first_stray (own_fixes file s) code (s.size / 8)) code)
    after_text second made =
        after_own (Ok changed) own
        ∙ ap (λ (r : Result (List Insn) ℕ). and_then r (λ code. refuse_at (first_stray (own_fixes file s) code (s.size / 8)) code))
        (sym (made ∙ ap (fixed_all file maps (s.size / 8) changed) (text_by file s others size are long)))

    pub refused_text : (slot : ℕ) → Err slot ≡ fixed_all file maps (s.size / 8) changed (fixes_in (Text s.size size) others) → Err slot ≡ linked file maps s insns
    refused_text slot made = sym (after_text (Err slot) made)

    pub linked_by : (code : List Insn) (stray : Option ℕ) → Ok code ≡ fixed_all file maps (s.size / 8) changed (fixes_in (Text s.size size) others) → stray ≡ first_stray (fixes_in (Own s.value s.size) relocs) code (s.size / 8) → refuse_at stray code ≡ linked file maps s insns
    linked_by code stray made none =
        ap (λ (o : Option ℕ). refuse_at o code) (none ∙ ap (λ fixes. first_stray fixes code (s.size / 8)) (own_by file s relocs is)) ∙ sym (after_text (Ok code) made)

-- the program of a linked code, or none
pub program_by : (file : List ℕ) (maps : List NamedMap) (draft : Draft) (code : Result (List Insn) ℕ) → code ≡ linked file maps (symbol file draft.function.symbol) draft.insns → and_then code (λ insns. Ok (program_with file maps draft insns)) ≡ program_of file maps draft
unfolding program_of
program_by file maps draft code is = ap (λ (r : Result (List Insn) ℕ). and_then r (λ insns. Ok (program_with file maps draft insns))) is

pub program_ends : (file : List ℕ) (maps : List NamedMap) (draft : Draft) (end : SlotEnd) → AnswersAt (λ answer. answer ≡ linked file maps (symbol file draft.function.symbol) draft.insns) (Err end) → AnswersAt (λ answer. answer ≡ program_of file maps draft) (Err end)
program_ends file maps draft (slots.Bad slot) is = program_by file maps draft (Err slot) is
program_ends file maps draft slots.OutOfMemory is = tt

pub program_made : (file : List ℕ) (maps : List NamedMap) (draft : Draft) (name section : List ℕ) (insns : List Insn) (count : ℕ) (copied : List NamedMap) → Ok insns ≡ linked file maps (symbol file draft.function.symbol) draft.insns → name ≡ symbol_name file draft.function.symbol → section ≡ section_name file (symbol file draft.function.symbol).section → count ≡ length maps → copied ≡ maps
    → Ok (record { name = name; section = section; config = draft.function.config; code = record { insns = insns; maps = count }; maps = copied }) ≡ program_of file maps draft
program_made file maps draft name section insns count copied is named in_section counted same = rw (named, in_section, counted, same) (program_by file maps draft (Ok insns) is)

-- a program that was made can be run
pub runnable_from : (file : List ℕ) (maps : List NamedMap) (draft : Draft) (program : Program) → Ok program ≡ program_of file maps draft → IsReady file draft → AreMakeable (specs_of maps) → IsRunnable program
unfolding program_of
runnable_from file maps draft program is ready makeable =
    let step = went_on (linked file maps (symbol file draft.function.symbol) draft.insns) (λ code. Ok (program_with file maps draft code)) program (sym is) in
    let made : IsRunnable (program_with file maps draft step.0) = record {
      code = linked-code file maps (symbol file draft.function.symbol) draft.insns step.0 step.1 ready.code;
      count = refl;
      maps = makeable;
    } in
    let same : program_with file maps draft step.0 ≡ program = cc in
    subst IsRunnable same made
