-- The maps of sections of constants behind others.
use Rattle.std.proofs.Common.{◌≡◌, ℕ, ◌+◌, ◌<◌, ◌≤◌, Option, None, Some, Ok, Err, List, [], ◌∷◌, ◌++◌, length, map, take, drop, get_or, refl, sym, ap, ◌∙◌, inr, arith}
use Rattle.std.specs.Option.{option_map}
use Rattle.std.proofs.lemmas.Bool.Decides.{nat_tests}
use Rattle.std.proofs.lemmas.List.{drop_all, drop_more, take_all}
use Rattle.map_store.specs.Initial.{HasInitial}
use Rattle.map_store.specs.Spec.{spec_rule}
use Rattle.run_config.specs.declared.named_map.NamedMap.{NamedMap}
use Rattle.run_config.specs.MapRules.{broken_at, first_break, rule_behind, MapBreak}
use Rattle.run_config.specs.Maps.{specs_of}
use Rattle.run_config.proofs.MapBreaks.{length-specs_of, rule_own, specs_of-push}
use Rattle.elf_objects.specs.Object.{content}
use Rattle.object_load.specs.declared.refusal.LoadEnd.{LoadEnd}
use Rattle.object_load.specs.declared.refusal.LoadEnd.TheVariants.{Refused, OutOfMemory}
use Rattle.object_load.specs.Maps.{constant_map, map_refusal, with_constants, IsBroken}
use Rattle.object_load.specs.Reading.{refuse, Answers, Is}

-- its content has the form that a store asks for
pub constants-initial : (file : List ℕ) (number : ℕ) → HasInitial (constant_map file number).spec
unfolding constant_map
constants-initial file number = inr (refl, refl, refl)

-- more bytes than a value may have
large-rule : (file : List ℕ) (number : ℕ) → 65536 < length (content file number) → spec_rule (constant_map file number).spec ≡ Some 7
unfolding constant_map spec_rule
large-rule file number large = grind (arith, nat_tests)

pub large-broken : (file : List ℕ) (maps : List NamedMap) (number : ℕ) → 65536 < length (content file number) → rule_behind (specs_of maps) (constant_map file number).spec ≡ Some 7
large-broken file maps number large = rule_own (specs_of maps) (constant_map file number).spec 7 (large-rule file number large)

-- the constants from one on
left_from : (file : List ℕ) (maps : List NamedMap) (numbers : List ℕ) (number : ℕ) (rule : Option ℕ) → rule_behind (specs_of maps) (constant_map file number).spec ≡ rule → first_break (specs_of maps) (specs_of (map (constant_map file) (number ∷ numbers))) ≡ broken_at (length maps) rule (first_break (specs_of (maps ++ constant_map file number ∷ [])) (specs_of (map (constant_map file) numbers)))
left_from file maps numbers number rule is =
    let rest = specs_of (map (constant_map file) numbers) in
    let spec = (constant_map file number).spec in
    ap (λ (r : Option ℕ). broken_at (length (specs_of maps)) r (first_break (specs_of maps ++ spec ∷ []) rest)) is
    ∙ ap (λ k. broken_at k rule (first_break (specs_of maps ++ spec ∷ []) rest)) (length-specs_of maps)
    ∙ ap (λ specs. broken_at (length maps) rule (first_break specs rest)) (sym (specs_of-push maps (constant_map file number)))

module _ (file : List ℕ) (numbers : List ℕ) (i : ℕ) (known : i < length numbers) (maps : List NamedMap) where
  left : (rule : Option ℕ) → rule_behind (specs_of maps) (constant_map file (get_or numbers i 0)).spec ≡ rule → first_break (specs_of maps) (specs_of (map (constant_map file) (drop i numbers))) ≡ broken_at (length maps) rule (first_break (specs_of (maps ++ constant_map file (get_or numbers i 0) ∷ [])) (specs_of (map (constant_map file) (drop (i + 1) numbers))))
  left rule is =
      ap (λ xs. first_break (specs_of maps) (specs_of (map (constant_map file) xs))) (drop_more numbers i 0 known)
      ∙ left_from file maps (drop (i + 1) numbers) (get_or numbers i 0) rule is

  -- one that breaks a rule
  constants_broken : (rule : ℕ) → rule_behind (specs_of maps) (constant_map file (get_or numbers i 0)).spec ≡ Some rule → first_break (specs_of maps) (specs_of (map (constant_map file) (drop i numbers))) ≡ Some (record { index = length maps; rule = rule })
  constants_broken rule some = left (Some rule) some

constants_are : (file : List ℕ) (maps : List NamedMap) (numbers : List ℕ) (broken : Option MapBreak) → first_break (specs_of maps) (specs_of (map (constant_map file) numbers)) ≡ broken → with_constants file maps numbers ≡ refuse (option_map map_refusal broken) (Ok (maps ++ map (constant_map file) numbers))
unfolding with_constants
constants_are file maps numbers broken is = ap (λ (o : Option MapBreak). refuse (option_map map_refusal o) (Ok (maps ++ map (constant_map file) numbers))) is

-- a map that isn't put behind the others refuses all
pub refused_at : (file : List ℕ) (initial maps : List NamedMap) (numbers : List ℕ) (i : ℕ) → i < length numbers → first_break (specs_of initial) (specs_of (map (constant_map file) numbers)) ≡ first_break (specs_of maps) (specs_of (map (constant_map file) (drop i numbers))) → (end : LoadEnd) → IsBroken maps (constant_map file (get_or numbers i 0)) end → Answers (Is (with_constants file initial numbers)) (Err end)
refused_at file initial maps numbers i known so_far (Refused refused) (rule, some, e) =
    let broken : MapBreak = record { index = length maps; rule = rule } in
    ap Err e ∙ sym (constants_are file initial numbers (Some broken) (so_far ∙ constants_broken file numbers i known maps rule some))
refused_at file initial maps numbers i known so_far OutOfMemory broken = tt

-- all are put behind the others
pub made_all : (file : List ℕ) (initial maps : List NamedMap) (numbers : List ℕ) (i : ℕ) → length numbers ≤ i → maps ≡ initial ++ map (constant_map file) (take i numbers) → first_break (specs_of initial) (specs_of (map (constant_map file) numbers)) ≡ first_break (specs_of maps) (specs_of (map (constant_map file) (drop i numbers))) → Ok maps ≡ with_constants file initial numbers
made_all file initial maps numbers i end is so_far =
    let none : first_break (specs_of maps) (specs_of (map (constant_map file) (drop i numbers))) ≡ None = ap (λ xs. first_break (specs_of maps) (specs_of (map (constant_map file) xs))) (drop_all i numbers end) in
    ap Ok (is ∙ ap (λ xs. initial ++ map (constant_map file) xs) (take_all i numbers end)) ∙ sym (constants_are file initial numbers None (so_far ∙ none))
