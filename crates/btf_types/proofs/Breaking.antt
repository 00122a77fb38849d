-- The rules one after the other: the first that is broken, by the list in which it stands.
use Rattle.std.proofs.Common.{◌≡◌, ℕ, ◌++◌, List, length, Some, None, refl, ◌∙◌}
use Rattle.btf_types.specs.declared.bad_btf.BadBtf.{BadBtf}
use Rattle.btf_types.specs.Breaks.{first_break, first_broken, header_rules, name_rules, reference_rules, rules_of, walk_rules}
use Rattle.btf_types.specs.Sections.{strings_of, type_section, types_end, types_in}
use Rattle.btf_types.proofs.TypesIn.{first_broken-append_none, first_broken-append_some}

-- what a break is, where the sections are these
pub first_break-sections : (bytes section strings : List ℕ) (end : ℕ) → section ≡ type_section bytes → strings ≡ strings_of bytes → end ≡ types_end bytes → first_break bytes ≡ first_broken (header_rules bytes ++ walk_rules end (types_in section) ++ name_rules (length strings) end (types_in section) ++ reference_rules (length (types_in section)) end (types_in section))
unfolding first_break rules_of
first_break-sections bytes section strings end s t e = rw (s, t, e) refl

pub broken_in_header : (bytes : List ℕ) (bad : BadBtf) → first_broken (header_rules bytes) ≡ Some bad → first_break bytes ≡ Some bad
broken_in_header bytes bad h =
    let section = type_section bytes in
    let end = types_end bytes in
    let header = header_rules bytes in
    let walk = walk_rules end (types_in section) in
    let names = name_rules (length (strings_of bytes)) end (types_in section) in
    let references = reference_rules (length (types_in section)) end (types_in section) in
    first_break-sections bytes section (strings_of bytes) end refl refl refl
    ∙ first_broken-append_some (header ++ walk ++ names) references bad (first_broken-append_some (header ++ walk) names bad (first_broken-append_some header walk bad h))

module _ (bytes section strings : List ℕ) (end : ℕ) (types_are : section ≡ type_section bytes) (strings_are : strings ≡ strings_of bytes) (end_is : end ≡ types_end bytes) (header_kept : first_broken (header_rules bytes) ≡ None) where
  pub broken_in_walk : (bad : BadBtf) → first_broken (walk_rules end (types_in section)) ≡ Some bad → first_break bytes ≡ Some bad
  broken_in_walk bad h =
      let header = header_rules bytes in
      let walk = walk_rules end (types_in section) in
      let names = name_rules (length strings) end (types_in section) in
      let references = reference_rules (length (types_in section)) end (types_in section) in
      first_break-sections bytes section strings end types_are strings_are end_is
      ∙ first_broken-append_some (header ++ walk ++ names) references bad (first_broken-append_some (header ++ walk) names bad (first_broken-append_none header walk header_kept ∙ h))

  pub broken_in_names : first_broken (walk_rules end (types_in section)) ≡ None → (bad : BadBtf) → first_broken (name_rules (length strings) end (types_in section)) ≡ Some bad → first_break bytes ≡ Some bad
  broken_in_names walk_kept bad h =
      let header = header_rules bytes in
      let walk = walk_rules end (types_in section) in
      let names = name_rules (length strings) end (types_in section) in
      let references = reference_rules (length (types_in section)) end (types_in section) in
      first_break-sections bytes section strings end types_are strings_are end_is
      ∙ first_broken-append_some (header ++ walk ++ names) references bad (first_broken-append_none (header ++ walk) names (first_broken-append_none header walk header_kept ∙ walk_kept) ∙ h)

  pub left_to_references : first_broken (walk_rules end (types_in section)) ≡ None → first_broken (name_rules (length strings) end (types_in section)) ≡ None → (types : ℕ) → types ≡ length (types_in section) → first_break bytes ≡ first_broken (reference_rules types end (types_in section))
  left_to_references walk_kept names_kept types count =
      let header = header_rules bytes in
      let walk = walk_rules end (types_in section) in
      let names = name_rules (length strings) end (types_in section) in
      let references = reference_rules (length (types_in section)) end (types_in section) in
      first_break-sections bytes section strings end types_are strings_are end_is
      ∙ first_broken-append_none (header ++ walk ++ names) references (first_broken-append_none (header ++ walk) names (first_broken-append_none header walk header_kept ∙ walk_kept) ∙ names_kept)
      ∙ rw count refl
