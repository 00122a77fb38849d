-- What is known of names, and with one more.
use Rattle.std.proofs.Common.{◌≡◌, ℕ, ◌+◌, ◌-◌, ◌<◌, nat_lt, cond, List, length, replicate, get_or, set, position, Some, None, refl, sym, ap, ◌∙◌, subst, inl, inr, arith}
use Rattle.std.specs.Str.{bytes_eq}
use Rattle.std.proofs.lemmas.Bool.{cases_eq, cases_lt}
use Rattle.std.proofs.lemmas.List.{get_or-replicate, get_or-set_other, get_or-set_same, get_or_past, length-replicate}
use Rattle.elf_objects.specs.Symbol.{symbol}
use Rattle.elf_objects.specs.Object.{symbol_name}
use Rattle.elf_objects.specs.Names.{name_at}
use Rattle.elf_objects.specs.Symbol.{symbol_names}
use Rattle.run_config.specs.declared.named_map.NamedMap.{NamedMap}
use Rattle.object_load.specs.KnownMaps.{known_at, AreKnown}

zero_unknown : (n : ℕ) → n ≡ 0 → cond (nat_lt 0 n) (Some (n - 1)) None ≡ None
zero_unknown n e = rw e refl

unknown : (known : List ℕ) (place : ℕ) → get_or known place 0 ≡ 0 → known_at known place ≡ None
unfolding known_at
unknown known place e = zero_unknown (get_or known place 0) e

same_all : (count place n : ℕ) → get_or (replicate count n) place n ≡ n
same_all count place n = elim (cases_lt place count) [
  | inl below ↦ get_or-replicate count place n n below
  | inr past ↦ get_or_past (replicate count n) place n (omega (arith, length-replicate count n))
]

pub none_known : (file : List ℕ) (maps : List NamedMap) (known : List ℕ) (count : ℕ) → known ≡ replicate count 0 → AreKnown file maps known
none_known file maps known count is = record {
  each = λ index number at. (let none = unknown known (symbol file index).name (rw is (same_all count (symbol file index).name 0)) in cc);
}

known_more : (known : List ℕ) (place number : ℕ) → place < length known → known_at (set known place (number + 1)) place ≡ Some number
unfolding known_at
known_more known place number below =
    let there = get_or-set_same known place (number + 1) 0 below in
    rw there (grind arith)

known_other : (known : List ℕ) (place other number : ℕ) → ((other ≡ place) → ⊥) → known_at (set known place number) other ≡ known_at known other
unfolding known_at
known_other known place other number n = rw (get_or-set_other known place other number 0 n) refl

pub keep_known : (file : List ℕ) (maps : List NamedMap) (known : List ℕ) (place number : ℕ) → place < length known → AreKnown file maps known
    → ((index : ℕ) → (symbol file index).name ≡ place → position (λ map. bytes_eq map.name (symbol_name file index)) maps ≡ Some number)
    → AreKnown file maps (set known place (number + 1))
keep_known file maps known place number below are here = record {
  each = λ index found at. elim (cases_eq (symbol file index).name place) [
    | inl e ↦ (let there : known_at (set known place (number + 1)) (symbol file index).name ≡ Some number = subst (λ p. known_at (set known place (number + 1)) p ≡ Some number) (sym e) (known_more known place number below) in
        here index e ∙ sym there ∙ at)
    | inr n ↦ are.each index found (sym (known_other known place (symbol file index).name (number + 1) n) ∙ at)
  ];
}

-- symbols whose names begin at one place have one name
pub same_name : (file : List ℕ) (maps : List NamedMap) (one other number : ℕ) → (symbol file other).name ≡ (symbol file one).name → position (λ map. bytes_eq map.name (symbol_name file one)) maps ≡ Some number → position (λ map. bytes_eq map.name (symbol_name file other)) maps ≡ Some number
same_name file maps one other number same is = ap (λ place. position (λ (map : NamedMap). bytes_eq map.name (name_at (symbol_names file) place)) maps) same ∙ is
