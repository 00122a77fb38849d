-- Pieces: what a piece shows at the front of bytes, and that bytes fall into pieces in one way.
use Rattle.std.proofs.Common.{◌≡◌, ◌≢◌, ◌≤◌, ◌-◌, ◌⊎◌, ℕ, Bool, List, [], ◌∷◌, ◌++◌, length, take, drop, refl, sym, ap, ◌∙◌, subst, inl, inr, arith, true, false, cond}
use Rattle.std.specs.Prelude.{if◌then◌else◌, ◌==◌}
use Rattle.std.specs.List.{concat, AllByRecursion}
use Rattle.std.proofs.lemmas.Bool.Decides.{nat_tests}
use Rattle.std.proofs.lemmas.List.{length-take, length-drop, drop-take, append_assoc, take_at, drop_at}
use Rattle.bpf_insn.specs.declared.insn.Insn.{Insn}
use Rattle.bpf_insn.specs.Form.{form_of, half_form, Fits, IsListed}
use Rattle.bpf_insn.specs.Code.{IsPiece}
use Rattle.bpf_insn.specs.Insn.{slot}
use Rattle.bpf_insn.proofs.Slots.{slot-take}

-- how many bytes a piece has that begins with this byte
abbrev pub size_by : ℕ → ℕ
size_by opcode = if opcode == 0x18 then 16 else 8

cond-cases : (b : Bool) (m n : ℕ) → (cond b m n ≡ n) ⊎ (cond b m n ≡ m)
cond-cases true m n = inr refl
cond-cases false m n = inl refl

size-cases : (opcode : ℕ) → (size_by opcode ≡ 8) ⊎ (size_by opcode ≡ 16)
size-cases opcode = cond-cases (opcode == 0x18) 16 8

pub size-wide : (opcode : ℕ) → opcode ≡ 0x18 → size_by opcode ≡ 16
size-wide opcode e = grind (arith, nat_tests)

pub piece_size : (piece : List ℕ) → IsPiece piece → length piece ≡ size_by (slot piece).opcode
piece_size piece (operation, takes) = takes.size ∙ ap size_by (sym takes.first.opcode)

-- what the front of bytes shows where a piece stands there
pub record Begins (bytes : List ℕ) : Type 0 where
  pub long : 8 ≤ length bytes
  pub listed : IsListed (slot bytes)
  pub half : (slot bytes).opcode ≡ 0x18 → (8 ≤ length (drop 8 bytes)) × Fits half_form (slot (drop 8 bytes))

pub Begins-piece : (n : ℕ) (bytes : List ℕ) → IsPiece (take n bytes) → Begins bytes
Begins-piece n bytes (operation, takes) =
    let size = piece_size (take n bytes) (operation, takes) in
    let least : 8 ≤ size_by (slot (take n bytes)).opcode = elim (size-cases (slot (take n bytes)).opcode) [ inl e ↦ omega arith | inr e ↦ omega arith ] in
    let enough : 8 ≤ n = omega (arith, length-take n bytes) in
    let same : slot (take n bytes) ≡ slot bytes = slot-take n bytes enough in
    record {
      long = omega (arith, length-take n bytes);
      listed = (operation, subst (Fits (form_of operation)) same takes.first);
      half = λ wide.
          let wide_form : (form_of operation).opcode ≡ 0x18 = sym takes.first.opcode ∙ ap (λ insn. insn.opcode) same ∙ wide in
          let both : length (take n bytes) ≡ 16 = takes.size ∙ size-wide (form_of operation).opcode wide_form in
          let long : 16 ≤ n = omega (arith, length-take n bytes) in
          let second : drop 8 (take n bytes) ≡ take (n - 8) (drop 8 bytes) = ap (λ k. drop 8 (take k bytes)) (omega arith) ∙ drop-take 8 (n - 8) bytes in
          (omega (arith, length-take n bytes, length-drop 8 bytes), subst (Fits half_form) (ap slot second ∙ slot-take (n - 8) (drop 8 bytes) (omega arith)) (takes.second wide_form));
    }

wide_there : (bytes : List ℕ) → IsListed (slot bytes) → (slot bytes).opcode ≡ 0x18 → (8 ≤ length (drop 8 bytes)) × Fits half_form (slot (drop 8 bytes)) → IsPiece (take 16 bytes)
wide_there bytes (operation, fits) wide half =
    let wide_form : (form_of operation).opcode ≡ 0x18 = sym fits.opcode ∙ wide in
    let second : slot (drop 8 (take 16 bytes)) ≡ slot (drop 8 bytes) = ap slot (drop-take 8 8 bytes) ∙ slot-take 8 (drop 8 bytes) (omega arith) in (
      operation,
      record {
        size = (omega (arith, length-take 16 bytes, length-drop 8 bytes, half.0)) ∙ sym (size-wide (form_of operation).opcode wide_form);
        first = subst (Fits (form_of operation)) (sym (slot-take 16 bytes (omega arith))) fits;
        second = λ _. subst (Fits half_form) (sym second) half.1;
      },
    )

-- The same of a first slot that was read, and the bytes behind it.
pub wide_piece : (bytes rest : List ℕ) (first : Insn) → first ≡ slot bytes → rest ≡ drop 8 bytes → IsListed first → first.opcode ≡ 0x18 → (8 ≤ length rest) × Fits half_form (slot rest) → (16 ≤ length bytes) × IsPiece (take 16 bytes)
wide_piece bytes rest first is behind listed wide half =
    let there = subst (λ rest. (8 ≤ length rest) × Fits half_form (slot rest)) behind half in
    (omega (arith, length-drop 8 bytes, there.0), wide_there bytes (subst IsListed is listed) (sym (ap (λ insn. insn.opcode) is) ∙ wide) there)

pub size-narrow : (opcode : ℕ) → opcode ≢ 0x18 → size_by opcode ≡ 8
size-narrow opcode narrow = grind (arith, nat_tests)

pub slot_piece : (bytes : List ℕ) (first : Insn) → first ≡ slot bytes → 8 ≤ length bytes → IsListed first → first.opcode ≢ 0x18 → (8 ≤ length bytes) × IsPiece (take 8 bytes)
slot_piece bytes first is long (operation, fits) narrow =
    let narrow_form : (form_of operation).opcode ≢ 0x18 = λ wide. narrow (fits.opcode ∙ wide) in (
      long,
      (
        operation,
        record {
          size = (omega (arith, length-take 8 bytes)) ∙ sym (size-narrow (form_of operation).opcode narrow_form);
          first = subst (Fits (form_of operation)) (is ∙ sym (slot-take 8 bytes (omega arith))) fits;
          second = λ wide. absurd (narrow_form wide);
        },
      ),
    )

pub unlisted : (bytes : List ℕ) (first : Insn) → first ≡ slot bytes → (IsListed first → ⊥) → (n : ℕ) → IsPiece (take n bytes) → ⊥
unlisted bytes first is none n piece = none (subst IsListed (sym is) (Begins-piece n bytes piece).listed)

pub no_half : (bytes rest : List ℕ) (first : Insn) → first ≡ slot bytes → rest ≡ drop 8 bytes → first.opcode ≡ 0x18 → ((8 ≤ length rest) × Fits half_form (slot rest) → ⊥) → (n : ℕ) → IsPiece (take n bytes) → ⊥
no_half bytes rest first is behind wide none n piece =
    none (subst (λ rest. (8 ≤ length rest) × Fits half_form (slot rest)) (sym behind) ((Begins-piece n bytes piece).half (sym (ap (λ insn. insn.opcode) is) ∙ wide)))

-- a piece at the front of the same bytes is the same
piece_first : (p x : List ℕ) → IsPiece p → length p ≡ size_by (slot (p ++ x)).opcode
piece_first p x piece =
    let size = piece_size p piece in
    let least : 8 ≤ length p = elim (size-cases (slot p).opcode) [ inl e ↦ omega arith | inr e ↦ omega arith ] in
    let front : slot p ≡ slot (p ++ x) = ap slot (sym (take_at p x (length p) refl)) ∙ slot-take (length p) (p ++ x) least in
    size ∙ ap (λ insn. size_by insn.opcode) front

same_piece : (p q x y : List ℕ) → IsPiece p → IsPiece q → p ++ x ≡ q ++ y → (p ≡ q) × (x ≡ y)
same_piece p q x y is_p is_q same =
    let size : length p ≡ length q = piece_first p x is_p ∙ ap (λ bytes. size_by (slot bytes).opcode) same ∙ sym (piece_first q y is_q) in (
      sym (take_at p x (length p) refl) ∙ ap (take (length p)) same ∙ take_at q y (length p) (sym size),
      sym (drop_at p x (length p) refl) ∙ ap (drop (length p)) same ∙ drop_at q y (length p) (sym size),
    )

-- bytes fall into pieces in one way, as far as pieces go
pub same_split : (ps qs : List (List ℕ)) (x y : List ℕ) → AllByRecursion IsPiece ps → AllByRecursion IsPiece qs → ((n : ℕ) → IsPiece (take n x) → ⊥) → ((n : ℕ) → IsPiece (take n y) → ⊥) → concat ps ++ x ≡ concat qs ++ y → (ps ≡ qs) × (x ≡ y)
same_split [] [] x y in_ps in_qs end_x end_y same = (refl, same)
same_split [] (q ∷ qs) x y in_ps in_qs end_x end_y same =
    let front : take (length q) x ≡ q = ap (take (length q)) (same ∙ append_assoc q (concat qs) y) ∙ take_at q (concat qs ++ y) (length q) refl in
    absurd (end_x (length q) (subst IsPiece (sym front) in_qs.0))
same_split (p ∷ ps) [] x y in_ps in_qs end_x end_y same =
    let front : take (length p) y ≡ p = ap (take (length p)) (sym same ∙ append_assoc p (concat ps) x) ∙ take_at p (concat ps ++ x) (length p) refl in
    absurd (end_y (length p) (subst IsPiece (sym front) in_ps.0))
same_split (p ∷ ps) (q ∷ qs) x y in_ps in_qs end_x end_y same =
    let first = same_piece p q (concat ps ++ x) (concat qs ++ y) in_ps.0 in_qs.0 (sym (append_assoc p (concat ps) x) ∙ same ∙ append_assoc q (concat qs) y) in
    let rest = same_split ps qs x y in_ps.1 in_qs.1 end_x end_y first.1 in
    (cc, rest.1)
