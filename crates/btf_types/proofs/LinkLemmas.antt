-- Ways that are put behind one another, and lists of them.
use Rattle.std.proofs.Common.{◌≡◌, ℕ, ◌+◌, ◌-◌, ◌*◌, ◌^◌, ◌<◌, ◌≤◌, ◌↔◌, List, [], ◌∷◌, ◌++◌, length, length-append, get_or, set, Some, slice_get, refl, sym, subst, inl, inr, arith}
use Rattle.std.proofs.lemmas.Bool.{cases_eq}
use Rattle.std.proofs.lemmas.List.{get_or-set_other, get_or-set_same, get_or_append_left, get_or_push, length-set}
use Rattle.std.proofs.lemmas.Option.{get_or_from_slice_get, slice_get_within}
use Rattle.btf_types.specs.declared.link.Link.{Link}
use Rattle.btf_types.specs.declared.size.Scale.{Scale}
use Rattle.btf_types.specs.declared.size.Sizing.TheVariants.{OfElements, OfTarget}
use Rattle.btf_types.specs.Links.{AreLinks, IsLink, IsWalk, Walked}
use Rattle.btf_types.specs.Scale.{IsBounded, Scales}
use Rattle.btf_types.specs.Size.{sizing}
use Rattle.btf_types.specs.TypeTable.{TypeTable}
use Rattle.btf_types.proofs.SizeWalk.{walked_elements, walked_none, walked_target}

-- what has nothing around it
abbrev alone : Scale
alone = record { factor = 1; largest = 2 ^ 32 - 1 }

module _ (types : TypeTable) where
  walked_alone : (number : ℕ) (scale : Scale) → scale ≡ alone → number ≤ length types.rows → Walked types number number 0 scale
  walked_alone number scale is le = rw is (walked_none types number alone refl refl le)

  bounded_alone : (scale : Scale) → scale ≡ alone → IsBounded scale
  bounded_alone scale is = rw is (record { product = omega arith; largest = omega arith })

  pub first_target : (number target : ℕ) (scale : Scale) → scale ≡ alone → number ≤ length types.rows → sizing types number ≡ OfTarget target → target ≤ length types.rows
      → IsWalk types number (record { at = target; steps = 1; scale = scale })
  first_target number target scale is le refers known = record {
    walked = walked_target types (walked_alone number scale is le) refers known;
    bounded = bounded_alone scale is;
  }

  pub first_elements : (number count element : ℕ) (scale inner : Scale) → scale ≡ alone → number ≤ length types.rows → sizing types number ≡ OfElements count element → element ≤ length types.rows
      → IsBounded inner → ((size total : ℕ) → size < 2 ^ 32 → Scales inner size total ↔ ((count * size < 2 ^ 32) × Scales scale (count * size) total))
      → IsWalk types number (record { at = element; steps = 1; scale = inner })
  first_elements number count element scale inner is le refers known bounded scales = record {
    walked = walked_elements types (walked_alone number scale is le) refers known scales;
    bounded = bounded;
  }

  pub links_none : AreLinks types []
  links_none = record { each = λ place any below. absurd (omega arith) }

  pub links_at : (links : List Link) (place : ℕ) (link : Link) → AreLinks types links → slice_get links place ≡ Some link → IsLink types (place + 1) link
  links_at links place link are at =
      subst (λ one. IsLink types (place + 1) one) (get_or_from_slice_get links place link link at) (are.each place link (slice_get_within links place link at))

  pub links_push : (links : List Link) (link : Link) → AreLinks types links → IsLink types (length links + 1) link → AreLinks types (links ++ link ∷ [])
  links_push links link are is = record {
    each = λ place any below. elim (cases_eq place (length links)) [
      | inl e ↦ subst (λ one. IsLink types (place + 1) one) (sym (get_or_push links link any place (sym e))) (subst (λ k. IsLink types (k + 1) link) (sym e) is)
      | inr n ↦ (let before : place < length links = omega (arith, length-append links (link ∷ [])) in
          subst (λ one. IsLink types (place + 1) one) (sym (get_or_append_left links (link ∷ []) any place before)) (are.each place any before))
    ];
  }

  pub links_set : (links : List Link) (at : ℕ) (link : Link) → AreLinks types links → at < length links → IsLink types (at + 1) link → AreLinks types (set links at link)
  links_set links at link are known is = record {
    each = λ place any below. elim (cases_eq place at) [
      | inl e ↦ subst (λ k. IsLink types (k + 1) (get_or (set links at link) k any)) (sym e) (subst (λ one. IsLink types (at + 1) one) (sym (get_or-set_same links at link any known)) is)
      | inr n ↦ (let there : place < length links = omega (arith, length-set links at link) in
          subst (λ one. IsLink types (place + 1) one) (sym (get_or-set_other links at place link any n)) (are.each place any there))
    ];
  }
