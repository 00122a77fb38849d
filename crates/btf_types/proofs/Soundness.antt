-- Bytes that break no rule hold sound types.
use Rattle.std.proofs.Common.{◌≡◌, ◌≢◌, ℕ, ◌+◌, ◌<◌, ◌≤◌, ◌^◌, ◌⊎◌, Bool, true, false, cond, IsTrue, nat_eq, nat_lt, nat_le, List, [], ◌∷◌, ◌++◌, map, length, Some, None, suc, length-append, refl, ap, ◌∙◌, inl, inr, arith}
use Rattle.std.specs.List.{flat_map, list_all, AllByRecursion}
use Rattle.std.proofs.lemmas.Bool.{and_parts, ltb-true, leb-true, cases_eq, cases_Bool, ne_eqb, not-false}
use Rattle.btf_types.specs.declared.bad_btf.BadBtf.{BadBtf}
use Rattle.btf_types.specs.declared.types.Part.{Part}
use Rattle.btf_types.specs.declared.types.TypeRow.{TypeRow}
use Rattle.btf_types.specs.Breaks.{first_break, first_broken, header_rules, name_rule, place_of, reference_rule, rules_of, walk_rules}
use Rattle.btf_types.specs.Kind.{ARRAY, STRUCT, UNION, DATASEC, FUNC_PROTO, has_target, names_entries}
use Rattle.btf_types.specs.TypeBytes.{entries_of, kind_of, member, names_of, parts_of, references_of, row_of, variable, word_at}
use Rattle.btf_types.specs.TypeTable.{TypeTable, IsSound, PartFits, RowFits}
use Rattle.btf_types.specs.Sections.{strings_of, type_section, types_end, types_in}
use Rattle.btf_types.specs.Reading.{rows_from, types_of}

-- none of two lists is broken, where none of both is
kept_parts : (xs ys : List (Bool × BadBtf)) → first_broken (xs ++ ys) ≡ None → (first_broken xs ≡ None) × (first_broken ys ≡ None)
kept_parts [] ys h = (refl, h)
kept_parts ((true, bad) ∷ xs) ys h = cc
kept_parts ((false, bad) ∷ xs) ys h = kept_parts xs ys h

-- a rule that is broken nowhere is kept at each type
kept_all : (rule : List ℕ → Bool × BadBtf) (types : List (List ℕ)) → first_broken (map rule types) ≡ None → AllByRecursion (λ head. (rule head).0 ≡ false) types
kept_all rule [] h = tt
kept_all rule (head ∷ types) h =
    elim (cases_Bool (rule head).0) [
      | inl broken ↦ (let found : Some (rule head).1 ≡ None = rw broken at h in cc)
      | inr kept ↦ (kept, kept_all rule types (rw kept at h))
    ]

-- what one type keeps
pub record Keeps (types : TypeTable) (head : List ℕ) : Type 0 where
  pub names : list_all (λ name. nat_lt name (length types.strings)) (names_of head) ≡ true
  pub references : list_all (λ reference. nat_le reference (length types.rows)) (references_of head) ≡ true

both_fit : {X : Type 0} (P : X → Type 0) (xs ys : List X) → AllByRecursion P xs → AllByRecursion P ys → AllByRecursion P (xs ++ ys)
both_fit P [] ys a b = b
both_fit P (x ∷ xs) ys a b = (a.0, both_fit P xs ys a.1 b)

-- an array has one part
one_part : (head : List ℕ) → kind_of head ≡ ARRAY → length (parts_of head) ≡ 1
unfolding parts_of
one_part head e = rw e refl

cond_at_true : {X : Type 0} (b : Bool) (x y : X) → b ≡ true → cond b x y ≡ x
cond_at_true true x y h = refl
cond_at_true false x y h = cc

cond_at_false : {X : Type 0} (b : Bool) (x y : X) → b ≡ false → cond b x y ≡ y
cond_at_false true x y h = cc
cond_at_false false x y h = refl

target_not : (kind other : ℕ) → has_target other ≡ false → has_target kind ≡ true → kind ≢ other
target_not kind other without with e = cc

no_target : (has_target ARRAY ≡ false) × (has_target STRUCT ≡ false) × (has_target UNION ≡ false) × (has_target DATASEC ≡ false)
no_target = (refl, refl, refl, refl)

module _ (types : TypeTable) (some : 0 < length types.strings) (few : length types.parts < 2 ^ 32) where
  members_fit : (entries : List (List ℕ)) → list_all (λ name. nat_lt name (length types.strings)) (map (λ entry. word_at entry 0) entries) ≡ true → list_all (λ reference. nat_le reference (length types.rows)) (map (λ entry. word_at entry 4) entries) ≡ true → AllByRecursion (PartFits types) (map member entries)
  members_fit [] n r = tt
  members_fit (entry ∷ entries) n r =
      let names = and_parts _ _ n in
      let targets = and_parts _ _ r in
      (record { name = ltb-true _ _ names.0; target = leb-true _ _ targets.0 }, members_fit entries names.1 targets.1)

  variables_fit : (entries : List (List ℕ)) → list_all (λ reference. nat_le reference (length types.rows)) (map (λ entry. word_at entry 0) entries) ≡ true → AllByRecursion (PartFits types) (map variable entries)
  variables_fit [] r = tt
  variables_fit (entry ∷ entries) r =
      let targets = and_parts _ _ r in
      (record { name = some; target = leb-true _ _ targets.0 }, variables_fit entries targets.1)

  members_of_fit : (head : List ℕ) → Keeps types head → names_entries (kind_of head) ≡ true → references_of head ≡ map (λ entry. word_at entry 4) (entries_of head) → AllByRecursion (PartFits types) (map member (entries_of head))
  unfolding names_of
  members_of_fit head keeps named refers =
      let names : list_all (λ name. nat_lt name (length types.strings)) (word_at head 0 ∷ map (λ entry. word_at entry 0) (entries_of head)) ≡ true = rw named at keeps.names in
      members_fit (entries_of head) (and_parts _ _ names).1 (rw refers at keeps.references)

  array_fits : (head : List ℕ) → Keeps types head → kind_of head ≡ ARRAY → AllByRecursion (PartFits types) (parts_of head)
  unfolding parts_of references_of
  array_fits head keeps e =
      let kept : list_all (λ reference. nat_le reference (length types.rows)) (word_at head 12 ∷ word_at head 16 ∷ []) ≡ true = rw e at keeps.references in
      rw e (record { name = some; target = leb-true _ _ (and_parts _ _ kept).0 }, tt)

  struct_fits : (head : List ℕ) → Keeps types head → (kind_of head ≡ STRUCT) ⊎ (kind_of head ≡ UNION) → AllByRecursion (PartFits types) (parts_of head)
  unfolding parts_of references_of names_entries
  struct_fits head keeps (inl e) = let fit = members_of_fit head keeps (rw e refl) (rw e refl) in rw e (rw e at fit)
  struct_fits head keeps (inr e) = let fit = members_of_fit head keeps (rw e refl) (rw e refl) in rw e (rw e at fit)

  section_fits : (head : List ℕ) → Keeps types head → kind_of head ≡ DATASEC → AllByRecursion (PartFits types) (parts_of head)
  unfolding parts_of references_of
  section_fits head keeps e =
      let refers : references_of head ≡ map (λ entry. word_at entry 0) (entries_of head) = rw e refl in
      let fit = variables_fit (entries_of head) (rw refers at keeps.references) in
      rw e (rw e at fit)

  no_parts : (head : List ℕ) → kind_of head ≢ ARRAY → kind_of head ≢ STRUCT → kind_of head ≢ UNION → kind_of head ≢ DATASEC → parts_of head ≡ []
  unfolding parts_of
  no_parts head a s u d = rw (ne_eqb (kind_of head) ARRAY a, ne_eqb (kind_of head) STRUCT s, ne_eqb (kind_of head) UNION u, ne_eqb (kind_of head) DATASEC d) refl

  -- the parts of a type that keeps the rules fit
  parts_fit : (head : List ℕ) → Keeps types head → AllByRecursion (PartFits types) (parts_of head)
  parts_fit head keeps =
      elim (cases_eq (kind_of head) ARRAY) [
        | inl e ↦ array_fits head keeps e
        | inr a ↦ elim (cases_eq (kind_of head) STRUCT) [
          | inl e ↦ struct_fits head keeps (inl e)
          | inr s ↦ elim (cases_eq (kind_of head) UNION) [
            | inl e ↦ struct_fits head keeps (inr e)
            | inr u ↦ elim (cases_eq (kind_of head) DATASEC) [
              | inl e ↦ section_fits head keeps e
              | inr d ↦ rw (no_parts head a s u d) tt
            ]
          ]
        ]
      ]

  refers_to_target : (head : List ℕ) → kind_of head ≢ FUNC_PROTO → has_target (kind_of head) ≡ true → references_of head ≡ word_at head 8 ∷ []
  unfolding references_of
  refers_to_target head f h =
      let kind = kind_of head in
      rw (ne_eqb kind ARRAY (target_not kind ARRAY no_target.0 h), ne_eqb kind STRUCT (target_not kind STRUCT no_target.1 h), ne_eqb kind UNION (target_not kind UNION no_target.2 h), ne_eqb kind DATASEC (target_not kind DATASEC no_target.3 h)) (cond_at_false (nat_eq kind FUNC_PROTO) _ _ (ne_eqb kind FUNC_PROTO f) ∙ cond_at_true (has_target kind) (word_at head 8 ∷ []) [] h)

  refers_to_parameters : (head : List ℕ) → kind_of head ≡ FUNC_PROTO → references_of head ≡ word_at head 8 ∷ map (λ entry. word_at entry 4) (entries_of head)
  unfolding references_of
  refers_to_parameters head e = rw e refl

  -- the target of a type that keeps the rules is there
  target_fits : (head : List ℕ) → Keeps types head → IsTrue (has_target (kind_of head)) → word_at head 8 ≤ length types.rows
  target_fits head keeps h =
      elim (cases_eq (kind_of head) FUNC_PROTO) [
        | inl e ↦ leb-true _ _ (and_parts _ _ (rw (refers_to_parameters head e) at keeps.references)).0
        | inr f ↦ leb-true _ _ (and_parts _ _ (rw (refers_to_target head f h) at keeps.references)).0
      ]

  row_fits : (first : ℕ) (head : List ℕ) → Keeps types head → first + length (parts_of head) ≤ length types.parts → RowFits types (row_of first head)
  unfolding row_of names_of
  row_fits first head keeps within = record {
    name = ltb-true _ _ (and_parts _ _ keeps.names).0;
    parts = within;
    numbers = omega arith;
    target = target_fits head keeps;
    array = one_part head;
  }

  all_parts_fit : (heads : List (List ℕ)) → AllByRecursion (Keeps types) heads → AllByRecursion (PartFits types) (flat_map parts_of heads)
  all_parts_fit [] keep = tt
  all_parts_fit (head ∷ heads) keep = both_fit (PartFits types) (parts_of head) (flat_map parts_of heads) (parts_fit head keep.0) (all_parts_fit heads keep.1)

  all_rows_fit : (first : ℕ) (heads : List (List ℕ)) → AllByRecursion (Keeps types) heads → first + length (flat_map parts_of heads) ≤ length types.parts → AllByRecursion (RowFits types) (rows_from first heads)
  all_rows_fit first [] keep within = tt
  all_rows_fit first (head ∷ heads) keep within =
      let both = length-append (parts_of head) (flat_map parts_of heads) in
      (row_fits first head keep.0 (omega (arith, both, within)), all_rows_fit (first + length (parts_of head)) heads keep.1 (omega (arith, both, within)))

-- there are as many rows as types
length-rows_from : (first : ℕ) (heads : List (List ℕ)) → length (rows_from first heads) ≡ length heads
length-rows_from first [] = refl
length-rows_from first (head ∷ heads) = ap suc (length-rows_from (first + length (parts_of head)) heads)

-- both rules kept at each type
keep_both : (types : TypeTable) (end : ℕ) (heads : List (List ℕ)) → AllByRecursion (λ head. (name_rule (length types.strings) (place_of end head) head).0 ≡ false) heads → AllByRecursion (λ head. (reference_rule (length types.rows) (place_of end head) head).0 ≡ false) heads → AllByRecursion (Keeps types) heads
keep_both types end [] n r = tt
keep_both types end (head ∷ heads) n r =
    (record { names = not-false _ n.0; references = not-false _ r.0 }, keep_both types end heads n.1 r.1)

-- bytes that break no rule hold sound types
pub sound : (bytes : List ℕ) → 0 < length (strings_of bytes) → length (types_of bytes).parts < 2 ^ 32 → first_break bytes ≡ None → IsSound (types_of bytes)
unfolding first_break rules_of types_of
sound bytes some few h =
    let end = types_end bytes in
    let heads = types_in (type_section bytes) in
    let types = types_of bytes in
    let names = λ (head : List ℕ). name_rule (length (strings_of bytes)) (place_of end head) head in
    let references = λ (head : List ℕ). reference_rule (length heads) (place_of end head) head in
    let last = kept_parts (header_rules bytes ++ walk_rules end heads ++ map names heads) (map references heads) h in
    let third = kept_parts (header_rules bytes ++ walk_rules end heads) (map names heads) last.0 in
    let keep = keep_both types end heads (kept_all names heads third.1) (rw length-rows_from (kept_all references heads last.1)) in
    record {
      rows = all_rows_fit types some few 0 heads keep (omega arith);
      parts = all_parts_fit types some few heads keep;
    }

-- the lists that were read are the types
pub types_of-lists : (bytes section strings : List ℕ) (rows : List TypeRow) (parts : List Part) → section ≡ type_section bytes → strings ≡ strings_of bytes → rows ≡ rows_from 0 (types_in section) → parts ≡ flat_map parts_of (types_in section) → types_of bytes ≡ record { rows = rows; parts = parts; strings = strings }
unfolding types_of
types_of-lists bytes section strings rows parts s t r p = rw (t, r, p, s) refl
