-- Files that are read, one after another.
use Rattle.std.proofs.Common.{◌≡◌, ◌≢◌, ◌⊎◌, ℕ, ◌+◌, ◌<◌, zero, suc, List, [], ◌∷◌, ◌++◌, length, length-append, take, Result, Ok, Err, OnOk, Option, append-nil, append_assoc, refl, sym, ap, ◌∙◌, subst, inl, inr, arith}
use Rattle.std.proofs.Math.Seq.{take-append-add}
use Rattle.xio.proofs.SetLemmas.{set_at-other, set_at-same}
use Rattle.xio.specs.Handles.{Handle, set_at}
use Rattle.xio.specs.ReadFile.{AsksFor}
use Rattle.xio.specs.Told.{Told}
use Rattle.xdp_tool.specs.Touched.{AreTaken, IsUnmade, Makes, Reads, TakesWhole}

taken-where : {A E : Type 0} (Q : Type 0) (result : Result A E) → Q → OnOk result Q
taken-where Q (Ok x) q = q
taken-where Q (Err e) q = tt

earlier-kept : (places : ℕ → ℕ) (size place call : ℕ) → call < size → (now : ℕ → ℕ) → now ≡ set_at places size place → now call ≡ places call
earlier-kept places size place call below now is = ap (λ f. f call) is ∙ set_at-other places size place call (λ same. absurd (omega (arith, same)))

-- one file, to its end
pub reads-whole : {A E : Type 0} (handles : ℕ → Handle) (t t' : Told) (name : List ℕ) (result : Result A E) → AsksFor handles t t' name (length (t.content name)) → Reads t t' (name ∷ []) result
reads-whole handles t t' name result asks = record {
  asked = (1, asks.asked);
  whole = taken-where (TakesWhole t t' (name ∷ [])) result (record {
    asked = asks.asked;
    whole = (ap (λ f. f (length t.asked)) asks.places ∙ set_at-same t.places (length t.asked) (length (t.content name)), tt);
  });
  unmade = record { made = asks.made; content = asks.content; flushed = asks.flushed };
  earlier = λ call below. earlier-kept t.places (length t.asked) (length (t.content name)) call below t'.places asks.places;
}

-- up to a place
pub reads-part : {A E : Type 0} (handles : ℕ → Handle) (t t' : Told) (name : List ℕ) (place : ℕ) (e : E) → AsksFor handles t t' name place → Reads t t' (name ∷ []) (let r : Result A E = Err e in r)
reads-part handles t t' name place e asks = record {
  asked = (1, asks.asked);
  whole = tt;
  unmade = record { made = asks.made; content = asks.content; flushed = asks.flushed };
  earlier = λ call below. earlier-kept t.places (length t.asked) place call below t'.places asks.places;
}

-- no file
pub reads-none : {A E : Type 0} (t t' : Told) (names : List (List ℕ)) (e : E) → t' ≡ t → Reads t t' names (let r : Result A E = Err e in r)
reads-none t t' names e same = record {
  asked = (0, ap (λ (u : Told). u.asked) same ∙ sym (append-nil t.asked));
  whole = tt;
  unmade = record { made = ap (λ (u : Told). u.made) same; content = ap (λ (u : Told). u.content) same; flushed = ap (λ (u : Told). u.flushed) same };
  earlier = λ call below. ap (λ (u : Told). u.places call) same;
}

-- where memory was wanting the file may not have been asked for
pub reads-wanting : {A E : Type 0} (handles : ℕ → Handle) (t t' : Told) (name : List ℕ) (e : E) → (t' ≡ t) ⊎ ((place : ℕ) × AsksFor handles t t' name place) → Reads t t' (name ∷ []) (let r : Result A E = Err e in r)
reads-wanting handles t t' name e (inr (place, asks)) = reads-part handles t t' name place e asks
reads-wanting handles t t' name e (inl same) = reads-none t t' (name ∷ []) e same

-- none yet
pub reads-start : {A E : Type 0} (t : Told) (x : A) → Reads t t [] (let r : Result A E = Ok x in r)
reads-start t x = record {
  asked = (0, sym (append-nil t.asked));
  whole = record { asked = sym (append-nil t.asked); whole = tt };
  unmade = record { made = refl; content = refl; flushed = refl };
  earlier = λ call below. refl;
}

taken-append : (content : List ℕ → List ℕ) (places : ℕ → ℕ) (call : ℕ) (names more : List (List ℕ)) → AreTaken content places call names → AreTaken content places (call + length names) more → AreTaken content places call (names ++ more)
taken-append content places call [] more front behind =
    let none : call + 0 ≡ call = omega arith in subst (λ (n : ℕ). AreTaken content places n more) none behind
taken-append content places call (name ∷ names) more front behind =
    let place : call + suc (length names) ≡ call + 1 + length names = omega arith in
    (front.0, taken-append content places (call + 1) names more front.1 (subst (λ (n : ℕ). AreTaken content places n more) place behind))

taken-kept : (content : List ℕ → List ℕ) (places now : ℕ → ℕ) (call : ℕ) (names : List (List ℕ)) → ((n : ℕ) → n < call + length names → now n ≡ places n) → AreTaken content places call names → AreTaken content now call names
taken-kept content places now call [] same taken = tt
taken-kept content places now call (name ∷ names) same taken =
    (same call (omega arith) ∙ taken.0, taken-kept content places now (call + 1) names (λ n below. same n (omega (arith, below))) taken.1)

-- some files to their ends, and then others
whole-both : {A E : Type 0} (t t₁ t₂ : Told) (names more : List (List ℕ)) (result : Result A E) → TakesWhole t t₁ names → IsUnmade t t₁ → Reads t₁ t₂ more result → OnOk result (TakesWhole t t₂ (names ++ more))
whole-both t t₁ t₂ names more (Err e) first unmade second = tt
whole-both t t₁ t₂ names more (Ok x) first unmade second =
    let size : length t₁.asked ≡ length t.asked + length names = ap length first.asked ∙ length-append t.asked names in
    let front = taken-kept t.content t₁.places t₂.places (length t.asked) names (λ n below. second.earlier n (omega (arith, size, below))) first.whole in
    let behind : AreTaken t.content t₂.places (length t.asked + length names) more =
    subst (λ (n : ℕ). AreTaken t.content t₂.places n more) size (subst (λ (c : List ℕ → List ℕ). AreTaken c t₂.places (length t₁.asked) more) unmade.content second.whole.whole) in
    record {
      asked = second.whole.asked ∙ (ap (λ xs. xs ++ more) first.asked ∙ append_assoc t.asked names more);
      whole = taken-append t.content t₂.places (length t.asked) names more front behind;
    }

pub reads-both : {A B E : Type 0} (t t₁ t₂ : Told) (names more : List (List ℕ)) (x : B) (result : Result A E) → Reads t t₁ names (let r : Result B E = Ok x in r) → Reads t₁ t₂ more result → Reads t t₂ (names ++ more) result
reads-both t t₁ t₂ names more x result first second =
    let size : length t₁.asked ≡ length t.asked + length names = ap length first.whole.asked ∙ length-append t.asked names in
    record {
      asked = (
        length names + second.asked.0,
        second.asked.1 ∙ (ap (λ xs. xs ++ take second.asked.0 more) first.whole.asked ∙ (append_assoc t.asked names (take second.asked.0 more)
            ∙ ap (λ xs. t.asked ++ xs) (sym (take-append-add names more second.asked.0)))),
      );
      whole = whole-both t t₁ t₂ names more result first.whole first.unmade second;
      unmade = record {
        made = second.unmade.made ∙ first.unmade.made;
        content = second.unmade.content ∙ first.unmade.content;
        flushed = second.unmade.flushed ∙ first.unmade.flushed;
      };
      earlier = λ call below. second.earlier call (omega (arith, size, below)) ∙ first.earlier call below;
    }

take-front : {X : Type 0} (n : ℕ) (xs ys : List X) → (k : ℕ) × (take n xs ≡ take k (xs ++ ys))
take-front {X = X} n [] ys = (0, take-nil n)
  where
    take-nil : (m : ℕ) → take m (let none : List X = [] in none) ≡ []
    take-nil zero = refl
    take-nil (suc m) = refl
take-front zero (x ∷ xs) ys = (0, refl)
take-front (suc n) (x ∷ xs) ys = let rest = take-front n xs ys in (suc rest.0, ap (λ more. x ∷ more) rest.1)

-- a run that stopped among the first of more files
pub reads-front : {A B E : Type 0} (t t' : Told) (names more : List (List ℕ)) (e : E) → Reads t t' names (let r : Result B E = Err e in r) → Reads t t' (names ++ more) (let r : Result A E = Err e in r)
reads-front t t' names more e reads =
    let front = take-front reads.asked.0 names more in
    record {
      asked = (front.0, reads.asked.1 ∙ ap (λ xs. t.asked ++ xs) front.1);
      whole = tt;
      unmade = reads.unmade;
      earlier = reads.earlier;
    }

-- the result's value doesn't matter
pub reads-as : {A B E : Type 0} (t t' : Told) (names : List (List ℕ)) (x : A) (y : B) → Reads t t' names (let r : Result A E = Ok x in r) → Reads t t' names (let r : Result B E = Ok y in r)
reads-as t t' names x y reads = record { asked = reads.asked; whole = reads.whole; unmade = reads.unmade; earlier = reads.earlier }

pub reads-err : {A B E : Type 0} (t t' : Told) (names : List (List ℕ)) (e : E) → Reads t t' names (let r : Result A E = Err e in r) → Reads t t' names (let r : Result B E = Err e in r)
reads-err t t' names e reads = record { asked = reads.asked; whole = tt; unmade = reads.unmade; earlier = reads.earlier }

pub reads-failed : {A B E : Type 0} (t t' : Told) (names : List (List ℕ)) (x : A) (e : E) → Reads t t' names (let r : Result A E = Ok x in r) → Reads t t' names (let r : Result B E = Err e in r)
reads-failed t t' names x e reads = record { asked = reads.asked; whole = tt; unmade = reads.unmade; earlier = reads.earlier }

-- the files were taken to their ends, whatever was made afterwards
pub taken-still : (t t₁ t₂ : Told) (names : List (List ℕ)) (made : Option (List ℕ)) → TakesWhole t t₁ names → Makes t₁ t₂ made → TakesWhole t t₂ names
taken-still t t₁ t₂ names made taken makes = record {
  asked = makes.asked ∙ taken.asked;
  whole = rw makes.places taken.whole;
}
