-- The maps of the entries so far.
use Rattle.std.proofs.Common.{◌≡◌, ℕ, List, [], ◌∷◌, ◌++◌, length, append-nil, take, slice_get, Some, None, refl, sym, ◌∙◌, subst}
use Rattle.std.specs.List.{filter_map}
use Rattle.std.proofs.lemmas.List.{take_at}
use Rattle.std.proofs.lemmas.List.Elements.{filter_map-append}
use Rattle.btf_types.specs.declared.types.Part.{Part}
use Rattle.btf_types.specs.declared.types.TypeRow.{TypeRow}
use Rattle.btf_types.specs.TypeTable.{TypeTable}
use Rattle.run_config.specs.declared.named_map.NamedMap.{NamedMap}
use Rattle.run_config.specs.Maps.{AreMaps, Breaks, IsFirstBreak, Pushes}
use Rattle.run_config.specs.Values.{none}
use Rattle.run_config.specs.Variables.{variable_of}
use Rattle.run_config.proofs.MapBreaks.{makeable-none}
use Rattle.run_config.proofs.Pairing.{paired-length, paired-push}

slice_get-seam : {A : Type 0} (xs ys : List A) (x : A) → slice_get (xs ++ x ∷ ys) (length xs) ≡ Some x
slice_get-seam [] ys x = refl
slice_get-seam (y ∷ xs) ys x = slice_get-seam xs ys x

module _ (types : TypeTable) where
  abbrev pub among : List Part → List TypeRow
  among entries = filter_map (variable_of types) entries

  pub are_maps-none : AreMaps types [] []
  are_maps-none = record { each = none; makeable = makeable-none }

  -- an entry that is no variable
  pub are_maps-other : (front more : List Part) (entry : Part) (maps : List NamedMap) → more ≡ front ++ entry ∷ [] → variable_of types entry ≡ None → AreMaps types (among front) maps → AreMaps types (among more) maps
  are_maps-other front more entry maps e none_there a =
      let same : among more ≡ among front ++ [] = rw (e, filter_map-append (variable_of types) front (entry ∷ []), none_there) refl in
      let kept : among front ++ [] ≡ among front = append-nil (among front) in
      subst (λ variables. AreMaps types variables maps) (sym (same ∙ kept)) a

  -- a variable whose map stands behind the others
  pub are_maps-push : (front more : List Part) (entry : Part) (variable : TypeRow) (before maps : List NamedMap) → more ≡ front ++ entry ∷ [] → variable_of types entry ≡ Some variable → Pushes types variable before maps → AreMaps types (among front) before → AreMaps types (among more) maps
  are_maps-push front more entry variable before maps e some p a =
      let same : among more ≡ among front ++ variable ∷ [] = rw (e, filter_map-append (variable_of types) front (entry ∷ []), some) refl in
      subst (λ variables. AreMaps types variables maps) (sym same) (record {
        each = rw p.behind (paired-push a.each p.is_map);
        makeable = p.makeable;
      })

  -- a variable that breaks a rule behind the maps of those before it
  pub first_break : (front entries rest : List Part) (entry : Part) (variable : TypeRow) (maps : List NamedMap) (index rule : ℕ) → entries ≡ front ++ entry ∷ rest → variable_of types entry ≡ Some variable → index ≡ length maps → Breaks types maps variable rule → AreMaps types (among front) maps → IsFirstBreak types (among entries) index rule
  first_break front entries rest entry variable maps index rule e some i breaks a =
      let same : among entries ≡ among front ++ variable ∷ among rest = rw (e, filter_map-append (variable_of types) front (entry ∷ rest), some) refl in
      let long : length (among front) ≡ index = paired-length a.each ∙ sym i in
      let before : take index (among entries) ≡ among front = rw same (take_at (among front) (variable ∷ among rest) index long) in
      let there : slice_get (among entries) index ≡ Some variable = rw (same, ← long) (slice_get-seam (among front) (among rest) variable) in
      record {
        maps = maps;
        before = subst (λ variables. AreMaps types variables maps) (sym before) a;
        variable = variable;
        here = there;
        breaks = breaks;
      }
