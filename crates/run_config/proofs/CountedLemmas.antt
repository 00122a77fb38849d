-- A type counts as one value, and has one size.
use Rattle.std.proofs.Common.{◌≡◌, ℕ, ◌*◌, ap, sym, ◌∙◌, subst}
use Rattle.btf_types.specs.Size.{HasSize, own, of_target, of_elements}
use Rattle.btf_types.specs.TypeTable.{TypeTable}
use Rattle.btf_types.proofs.Sizes.{size_own, size_of_target, size_of_elements}
use Rattle.btf_types.specs.Resolution.{Resolves}
use Rattle.run_config.specs.Counted.{Counts}
use Rattle.btf_types.proofs.Resolving.{resolves-unique}

module _ (types : TypeTable) where
  pub counts-unique : {number one other : ℕ} → Counts types number one → Counts types number other → one ≡ other
  counts-unique c d =
      let pointer : c.pointer ≡ d.pointer = resolves-unique types c.points d.points in
      let target : c.pointer.size_or_target ≡ d.pointer.size_or_target = ap (λ row. row.size_or_target) pointer in
      let array : c.array ≡ d.array = resolves-unique types (subst (λ number. Resolves types number c.array) target c.target) d.target in
      let first : c.array.first ≡ d.array.first = ap (λ row. row.first) array in
      let part = c.part in
      let again = d.part in
      let elements : c.elements ≡ d.elements = cc in
      sym c.count ∙ ap (λ one. one.place) elements ∙ d.count

  pub size-unique : {number one other : ℕ} → HasSize types number one → HasSize types number other → one ≡ other
  size-unique (own f small) h = sym (size_own types f h)
  size-unique (of_target f rest) h = size-unique rest (size_of_target types f h)
  size-unique (of_elements {count = count} f rest small) h =
      let inside = size_of_elements types f h in
      ap (λ size. count * size) (size-unique rest inside.1) ∙ sym inside.3
