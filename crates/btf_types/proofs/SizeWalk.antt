-- The walk that finds a size: so many references lead from a type to another.
use Rattle.std.proofs.Common.{◌≡◌, ℕ, suc, ◌+◌, ◌-◌, ◌*◌, ◌<◌, ◌≤◌, ◌^◌, ◌↔◌, length, Some, None, refl, ap, ◌∙◌, subst, arith, zero-add}
use Rattle.btf_types.specs.declared.size.Scale.{Scale}
use Rattle.btf_types.specs.declared.size.Sizing.TheVariants.{Own, OfTarget, OfElements, Absent}
use Rattle.btf_types.specs.TypeTable.{TypeTable}
use Rattle.btf_types.specs.Links.{after, Walked}
use Rattle.btf_types.specs.Scale.{Scales}
use Rattle.btf_types.specs.Size.{HasSize, own, of_target, of_elements, IsEndless, RefersTo, referred, sizing}
use Rattle.btf_types.proofs.Sizes.{Ends, after_split, ends_from_after, endless_from_after, ends_somewhere, size_absent, size_ends, size_of_elements, size_of_target, size_own, size_small}

module _ (types : TypeTable) where
  pub walked_none : (first : ℕ) (scale : Scale) → scale.factor ≡ 1 → scale.largest ≡ 2 ^ 32 - 1 → first ≤ length types.rows → Walked types first first 0 scale
  walked_none first scale one all le = record {
    in_range = le;
    path = λ k. rw zero-add refl;
    sized = λ total. (
      (λ h. (total, h, (omega (arith, all, size_small types h), rw one (omega arith)))),
      (λ h. (let e : total ≡ 1 * h.0 = rw one at h.2.1 in
          let same : h.0 ≡ total = omega (arith, e) in
          subst (λ t. HasSize types first t) same h.1)),
    );
  }

  -- one reference more
  path_more : (first at next steps : ℕ) → RefersTo types at next → ((k : ℕ) → after types (steps + k) first ≡ after types k at) → (k : ℕ) → after types (steps + 1 + k) first ≡ after types k next
  unfolding after
  path_more first at next steps r path k =
      let one : steps + 1 + k ≡ steps + suc k = omega arith in
      rw one (path (suc k) ∙ rw r refl)

  pub walked_target : {first at target steps : ℕ} {scale : Scale} → Walked types first at steps scale → sizing types at ≡ OfTarget target → target ≤ length types.rows → Walked types first target (steps + 1) scale
  walked_target {first = first} {at = at} {target = target} {steps = steps} w e le = record {
    in_range = le;
    path = path_more first at target steps (ap referred e) w.path;
    sized = λ total. (
      (λ h. (let here = (w.sized total).0 h in (here.0, size_of_target types e here.1, here.2))),
      (λ h. (w.sized total).1 (h.0, of_target e h.1, h.2)),
    );
  }

  pub walked_elements : {first at count element steps : ℕ} {scale inner : Scale} → Walked types first at steps scale → sizing types at ≡ OfElements count element → element ≤ length types.rows → ((size total : ℕ) → size < 2 ^ 32 → Scales inner size total ↔ ((count * size < 2 ^ 32) × Scales scale (count * size) total)) → Walked types first element (steps + 1) inner
  walked_elements {first = first} {at = at} {count = count} {element = element} {steps = steps} {scale = scale} w e le scales = record {
    in_range = le;
    path = path_more first at element steps (ap referred e) w.path;
    sized = λ total. (
      (λ h. (let here = (w.sized total).0 h in
          let inside = size_of_elements types e here.1 in
          (inside.0, inside.1, (scales inside.0 total (size_small types inside.1)).1 (inside.2, subst (λ s. Scales scale s total) inside.3 here.2)))),
      (λ h. (let outside = (scales h.0 total (size_small types h.1)).0 h.2 in
          (w.sized total).1 (count * h.0, of_elements e h.1 outside.0, outside.1))),
    );
  }

  -- a type that refers to none is the end
  walked_ends : {first at steps : ℕ} {scale : Scale} → Walked types first at steps scale → referred (sizing types at) ≡ None → Ends types first
  unfolding after
  walked_ends {first = first} {steps = steps} w e = ends_from_after types (steps + 1) first (w.path 1 ∙ rw e refl)

  pub walked_to_own : {first at steps size : ℕ} {scale : Scale} → Walked types first at steps scale → sizing types at ≡ Own size → size < 2 ^ 32 → (total : ℕ) → HasSize types first total ↔ Scales scale size total
  walked_to_own {scale = scale} w e small total = (
    (λ h. (let here = (w.sized total).0 h in subst (λ s. Scales scale s total) (size_own types e here.1) here.2)),
    (λ h. (w.sized total).1 (_, own e small, h)),
  )

  pub own_not_endless : {first at steps size : ℕ} {scale : Scale} → Walked types first at steps scale → sizing types at ≡ Own size → IsEndless types first → ⊥
  own_not_endless w e h = ends_somewhere types (walked_ends w (ap referred e)) h

  pub absent_not_sized : {first at steps total : ℕ} {scale : Scale} → Walked types first at steps scale → sizing types at ≡ Absent → HasSize types first total → ⊥
  absent_not_sized {total = total} w e h = size_absent types e ((w.sized total).0 h).1

  pub absent_not_endless : {first at steps : ℕ} {scale : Scale} → Walked types first at steps scale → sizing types at ≡ Absent → IsEndless types first → ⊥
  absent_not_endless w e h = ends_somewhere types (walked_ends w (ap referred e)) h

  -- one way behind another
  pub walked_then : {first mid at s1 s2 : ℕ} {outer inner scale : Scale} → Walked types first mid s1 outer → Walked types mid at s2 inner
      → ((size total : ℕ) → Scales scale size total ↔ ((middle : ℕ) × Scales inner size middle × Scales outer middle total)) → Walked types first at (s1 + s2) scale
  walked_then {first = first} {mid = mid} {at = at} {s1 = s1} {s2 = s2} w v scales = record {
    in_range = v.in_range;
    path = λ k. (let both : (s1 + s2) + k ≡ s1 + (s2 + k) = omega arith in rw both (w.path (s2 + k) ∙ v.path k));
    sized = λ total. (
      (λ h. (let outside = (w.sized total).0 h in
          let inside = (v.sized outside.0).0 outside.1 in
          (inside.0, inside.1, (scales inside.0 total).1 (outside.0, inside.2, outside.2)))),
      (λ h. (let middle = (scales h.0 total).0 h.2 in
          (w.sized total).1 (middle.0, (v.sized middle.0).1 (h.0, h.1, middle.1), middle.2))),
    );
  }

  -- more references than types
  pub walked_endless : {first at steps : ℕ} {scale : Scale} → Walked types first at steps scale → length types.rows < steps → IsEndless types first
  unfolding after
  walked_endless {first = first} {at = at} {steps = steps} w more =
      let count = suc (length types.rows) in
      let all : steps + 0 ≡ count + (steps - count) = omega arith in
      let split = after_split types count (steps - count) first at (subst (λ k. after types k first ≡ Some at) all (w.path 0)) in
      endless_from_after types first split.0 split.1

  pub endless_not_sized : {first total : ℕ} → IsEndless types first → HasSize types first total → ⊥
  endless_not_sized e h = ends_somewhere types (size_ends types h) e
