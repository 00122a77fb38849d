-- Loops over the items of a list, each of which gives something.
use Rattle.std.proofs.Common.{◌≡◌, ℕ, ◌+◌, ◌≤◌, List, [], ◌∷◌, ◌++◌, length, take, Ok, Err, Result, Some, sym, ◌∙◌, subst, arith}
use Rattle.std.specs.List.{slice_get, All}
use Rattle.std.proofs.lemmas.List.{length-take-le, take_all}
use Rattle.std.proofs.lemmas.List.Elements.{All-nil, All-push}
use Rattle.std.proofs.lemmas.Option.{slice_get_within}
use Rattle.run_config.specs.Values.{Paired, none}
use Rattle.run_config.proofs.Pairing.{paired-length, paired-push}
use Rattle.run_config.proofs.Parts.{take-next}
use Rattle.object_load.specs.declared.refusal.LoadRefusal.{LoadRefusal}
use Rattle.object_load.specs.Reading.{Each, every, refused}

-- no item so far
pub paired_start : {A B : Type 0} (R : A → B → Type 0) (given : List B) → given ≡ [] → Paired R [] given
paired_start R given is = subst (Paired R []) (sym is) none

pub all_start : {A : Type 0} (P : A → Type 0) (given : List A) → given ≡ [] → All P given
all_start P given is = subst (All P) (sym is) (All-nil P)

-- one item more gave something
pub paired_more : {A B : Type 0} (R : A → B → Type 0) (items : List A) (given more : List B) (i : ℕ) (item : A) (one : B) → more ≡ given ++ one ∷ [] → slice_get items i ≡ Some item → Paired R (take i items) given → R item one → Paired R (take (i + 1) items) more
paired_more R items given more i item one pushed there so_far here =
    subst (Paired R (take (i + 1) items)) (sym pushed)
    (subst (λ xs. Paired R xs (given ++ one ∷ [])) (sym (take-next items i item there)) (paired-push so_far here))

pub all_more : {A : Type 0} (P : A → Type 0) (xs more : List A) (x : A) → more ≡ xs ++ x ∷ [] → All P xs → P x → All P more
all_more P xs more x pushed each here = subst (All P) (sym pushed) (All-push P xs x each here)

module _ {A B E : Type 0} (gives : A → Result B E → Type 0) (refusal : ℕ → E → LoadRefusal) where
  -- all items gave something
  pub each_all : (items : List A) (given : List B) (i : ℕ) → length items ≤ i → Paired (λ item one. gives item (Ok one)) (take i items) given → Each gives refusal items (Ok given)
  each_all items given i end so_far = every (subst (λ xs. Paired (λ item one. gives item (Ok one)) xs given) (take_all i items end) so_far)

  -- an item is refused behind those that gave something
  pub each_first : (items : List A) (given : List B) (i : ℕ) (item : A) (why : E) → slice_get items i ≡ Some item → Paired (λ item one. gives item (Ok one)) (take i items) given → gives item (Err why) → Each gives refusal items (Err (refusal (length given) why))
  each_first items given i item why there so_far end =
      let within = slice_get_within items i item there in
      let count : i ≡ length given = sym (length-take-le i items (omega arith)) ∙ paired-length so_far in
      subst (λ place. Each gives refusal items (Err (refusal place why))) count (refused i item why given so_far there end)
