-- What a spec that keeps its rules is bounded by.
use Rattle.std.proofs.Common.{◌≡◌, ℕ, ◌≤◌, Bool, true, false, not, find, None, [], ◌∷◌, refl, arith}
use Rattle.std.specs.Option.{option_map}
use Rattle.std.proofs.lemmas.Bool.{and_parts, eqb-true, leb-true}
use Rattle.map_store.specs.declared.spec.MapKind.{MapKind}
use Rattle.map_store.specs.declared.spec.MapKind.TheVariants.{Hash, Array, PercpuHash, PercpuArray}
use Rattle.map_store.specs.declared.spec.MapSpec.{MapSpec}
use Rattle.map_store.specs.Spec.{has_key_size, is_between, spec_rule}

all_pass : (a b c : Bool) → option_map (λ (rule : ℕ × Bool). rule.0) (find (λ rule. rule.1) ((5, false) ∷ (6, not a) ∷ (7, not b) ∷ (8, not c) ∷ [])) ≡ None → (a ≡ true) × (b ≡ true) × (c ≡ true)
all_pass true true true h = (refl, refl, refl)
all_pass true true false h = cc
all_pass true false c h = cc
all_pass false b c h = cc

between-le : (least most n : ℕ) → is_between least most n ≡ true → n ≤ most
between-le least most n h = leb-true n most (and_parts _ _ h).1

key-le : (kind : MapKind) (size : ℕ) → has_key_size kind size ≡ true → size ≤ 512
key-le Array size h = let e = eqb-true size 4 h in omega (arith, e)
key-le PercpuArray size h = let e = eqb-true size 4 h in omega (arith, e)
key-le Hash size h = between-le 1 512 size h
key-le PercpuHash size h = between-le 1 512 size h

pub kept-bounds : (spec : MapSpec) → spec_rule spec ≡ None → (spec.key_size ≤ 512) × (spec.value_size ≤ 65536) × (spec.max_entries ≤ 1048576)
unfolding spec_rule
kept-bounds spec h =
    let pass = all_pass (has_key_size spec.kind spec.key_size) (is_between 1 65536 spec.value_size) (is_between 1 1048576 spec.max_entries) h in
    (key-le spec.kind spec.key_size pass.0, between-le 1 65536 spec.value_size pass.1, between-le 1 1048576 spec.max_entries pass.2)

pub ruleset bounds = kept-bounds
