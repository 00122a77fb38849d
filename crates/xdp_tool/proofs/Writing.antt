-- What was printed through a buffer into a sink, of which nothing waits before and after.
use Rattle.std.proofs.Common.{◌≡◌, ℕ, ◌+◌, ◌-◌, ◌≤◌, Bool, true, IsTrue, List, [], ◌++◌, length, take, append-nil, Result, Ok, Err, sym, ap, ◌∙◌, subst, arith}
use Rattle.std.proofs.Math.Seq.{take-append-add}
use Rattle.std.proofs.lemmas.List.{length-take}
use Rattle.xio.specs.Causes.{HasCause}
use Rattle.xio.specs.Prefixes.{AppendsPrefix}
use Rattle.xio.specs.Printing.{Prints, behind}
use Rattle.xdp_tool.specs.PhaseEnd.{PutsText}

front-put : (old new text : List ℕ) (n : ℕ) → new ≡ take n (old ++ text) → length old ≤ length new → AppendsPrefix old new text
front-put old new text n is more =
    let k = n - length old in
    let len : length new ≡ length (take n (old ++ text)) = ap length is in
    let cut : length old + k ≡ n = omega (arith, more, len, length-take n (old ++ text)) in
    (k, is ∙ (ap (λ m. take m (old ++ text)) (sym cut) ∙ take-append-add old text k))

-- behind nothing that waits
behind-none : (held waiting text : List ℕ) → waiting ≡ [] → (held ++ waiting) ++ text ≡ held ++ text
behind-none held waiting text none = ap (λ w. (held ++ w) ++ text) none ∙ ap (λ h. h ++ text) (append-nil held)

-- printing ended
pub cut-short : {S E : Type 0} (told : Bool) (held waiting held' waiting' text : List ℕ) (before now : ℕ) (setting setting' : S) (e : E) → waiting ≡ []
    → Prints told true (behind held waiting before setting) (behind held' waiting' now setting') text (let r : Result Unit E = Err e in r)
    → IsTrue told → AppendsPrefix held held' text
cut-short told held waiting held' waiting' text before now setting setting' e none p h =
    let front = p.front h in
    front-put held held' text front.0 (front.1 ∙ ap (take front.0) (behind-none held waiting text none)) (p.more h)

-- the whole text was printed, and what of it waited was passed on, or a front of that
pub passed-on : {S R E F : Type 0} (told : Bool) (held waiting held' waiting' held'' waiting'' text : List ℕ) (before now last : ℕ) (setting setting' : S) (own own' : R) (result : Result Unit F) → waiting ≡ []
    → Prints {E = E} told true (behind held waiting before setting) (behind held' waiting' now setting') text (Ok tt)
    → Prints told true (behind held' waiting' now own) (behind held'' waiting'' last own') [] result → waiting'' ≡ []
    → IsTrue told → PutsText result held held'' text
passed-on told held waiting held' waiting' held'' waiting'' text before now last setting setting' own own' (Ok _) none p q empty h =
    sym (append-nil held'') ∙ (ap (λ w. held'' ++ w) (sym empty) ∙ (q.printed h ∙ (append-nil (held' ++ waiting') ∙ (p.printed h ∙ behind-none held waiting text none))))
passed-on told held waiting held' waiting' held'' waiting'' text before now last setting setting' own own' (Err _) none p q empty h =
    let front = q.front h in
    front-put held held'' text front.0
    (front.1 ∙ ap (take front.0) (append-nil (held' ++ waiting') ∙ (p.printed h ∙ behind-none held waiting text none)))
    (omega (arith, p.more h, q.more h))

-- the first of two steps didn't fail
pub cause-on : {E F : Type 0} (before now last : ℕ) (result : Result Unit F) → HasCause before now (let r : Result Unit E = Ok tt in r) → HasCause now last result → HasCause before last result
cause-on before now last (Ok _) first second = record { later = omega (arith, first.later, second.later); failed = tt; same = second.same ∙ first.same }
cause-on {F = F} before now last (Err f) first second = subst (λ (n : ℕ). HasCause n last (let r : Result Unit F = Err f in r)) first.same second
