-- How a run ended, by what it says of its end.
use Rattle.std.proofs.Common.{◌≡◌, ◌⊎◌, ℕ, ◌≤◌, Bool, true, false, inl, inr, Result, Err, refl, sym, ap, ◌∙◌, arith}
use Rattle.std.proofs.lemmas.Bool.{false≢true}
use Rattle.xio.specs.Causes.{Rose}
use Rattle.xdp_tool.specs.Ending.{status_of}
use Rattle.xdp_tool.specs.Headline.{is_decided, is_end}
use Rattle.xdp_tool.specs.declared.counts.CarryEnd.{CarryEnd}
use Rattle.xdp_tool.specs.declared.counts.CarryEnd.TheVariants as carry
use Rattle.xdp_tool.specs.declared.ending.Ending.{Ending}
use Rattle.xdp_tool.specs.declared.ending.Ending.TheVariants.{OutOfMemory}
use Rattle.xdp_tool.specs.declared.perform.Stop.{Stop}
use Rattle.xdp_tool.specs.declared.perform.Stop.TheVariants.{Differs}

-- a decided run came to the script's end, or ended before the first line
pub by-end : {F R : Type 0} (status : ℕ) (told ending : Ending) → status ≡ status_of told → (told ≡ ending) ⊎ (told ≡ OutOfMemory) → is_decided status ≡ true → (is_end (status_of ending) ≡ true → F) → (is_decided (status_of ending) ≡ true → is_end (status_of ending) ≡ false → F ⊎ R) → F ⊎ R
by-end status told ending is (inr none) decided at_end early =
    absurd (false≢true (sym (ap (λ e. is_decided (status_of e)) none) ∙ (sym (ap is_decided is) ∙ decided)))
by-end {F} {R} status told ending is (inl same) decided at_end early = by_case (is_end (status_of ending)) refl
  where
    its : is_decided (status_of ending) ≡ true
    its = sym (ap (λ e. is_decided (status_of e)) same) ∙ (sym (ap is_decided is) ∙ decided)

    by_case : (b : Bool) → is_end (status_of ending) ≡ b → F ⊎ R
    by_case true e = inl (at_end e)
    by_case false e = early its e

pub rose-since : (before middle now : ℕ) → before ≤ middle → Rose middle now → Rose before now
rose-since before middle now le rose = omega (arith, rose)

pub rose-either : {F : Type 0} (before middle now : ℕ) → before ≤ middle → F ⊎ Rose middle now → F ⊎ Rose before now
rose-either before middle now le (inl f) = inl f
rose-either before middle now le (inr rose) = inr (rose-since before middle now le rose)

-- a phase wasn't carried for this reason, whatever would have come of it
pub end-known : {A B : Type 0} (end other : CarryEnd) → (let one : Result A CarryEnd = Err end in one) ≡ Err other → (let one : Result B CarryEnd = Err end in one) ≡ Err other
end-known {A} {B} end other is =
    let same : end ≡ other = cc in ap (λ (e : CarryEnd). let one : Result B CarryEnd = Err e in one) same

pub line-known : {A : Type 0} (carried : Result A CarryEnd) (line other : ℕ) → carried ≡ Err (carry.Differs line) → (let stopped : Result Unit Stop = Err (Differs line) in stopped) ≡ Err (Differs other) → carried ≡ Err (carry.Differs other)
line-known {A} carried line other is stops =
    let same : line ≡ other = cc in is ∙ ap (λ (n : ℕ). let one : Result A CarryEnd = Err (carry.Differs n) in one) same
