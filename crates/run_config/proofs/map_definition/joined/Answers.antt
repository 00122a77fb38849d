use Rattle.std.proofs.Common.{ℕ, Result, Err, subst}
use Rattle.run_config.specs.declared.map_definition.Given.{Given}
use Rattle.run_config.specs.declared.map_member.Field.{Field}
use Rattle.run_config.specs.Given.{AreGiven, IsGiven, IsRead}
use Rattle.run_config.specs.MapMembers.{Reads, ReadsAll}
use Rattle.run_config.proofs.Joining.{given_kept}
use Rattle.run_config.proofs.MapReading.{broken_broken, broken_kept, kept_broken}
use Rattle.run_config.proofs.map_definition.joined.Goals as goal

pub returns-in-Ok-Ok : goal.returns-in-Ok-Ok
returns-in-Ok-Ok c types members one before member =
    given_kept types members one c.in-Ok-Ok.given c.in-Ok-Ok.field c.in-Ok-Ok.number c.with.result c.with.ensures (subst (λ (b : Result Given ℕ). AreGiven types members b) c.in-Ok-Ok.is-0 before) (subst (λ (m : Result (Field × ℕ) ℕ). IsRead types one m) c.in-Ok-Ok.is-1 member)

pub returns-in-Ok-Err : goal.returns-in-Ok-Err
returns-in-Ok-Err c types members one before member =
    let given : IsGiven types members c.in-Ok-Err.field-0-0 = subst (λ (b : Result Given ℕ). AreGiven types members b) c.in-Ok-Err.is-0 before in
    let breaks : Reads types one (Err c.in-Ok-Err.rule) = subst (λ (m : Result (Field × ℕ) ℕ). IsRead types one m) c.in-Ok-Err.is-1 member in
    kept_broken types given.reads breaks

pub returns-in-Err-Ok : goal.returns-in-Err-Ok
returns-in-Err-Ok c types members one before member =
    let breaks : ReadsAll types members (Err c.in-Err-Ok.rule) = subst (λ (b : Result Given ℕ). AreGiven types members b) c.in-Err-Ok.is-0 before in
    broken_kept types breaks (subst (λ (m : Result (Field × ℕ) ℕ). IsRead types one m) c.in-Err-Ok.is-1 member)

pub returns-in-Err-Err : goal.returns-in-Err-Err
returns-in-Err-Err c types members one before member =
    let breaks : ReadsAll types members (Err c.in-Err-Err.rule) = subst (λ (b : Result Given ℕ). AreGiven types members b) c.in-Err-Err.is-0 before in
    let another : Reads types one (Err c.in-Err-Err.other) = subst (λ (m : Result (Field × ℕ) ℕ). IsRead types one m) c.in-Err-Err.is-1 member in
    rw c.min.ensures (broken_broken types breaks another)
