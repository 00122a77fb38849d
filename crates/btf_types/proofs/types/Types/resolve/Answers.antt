use Rattle.std.proofs.Common.{◌≡◌, ◌+◌, subst, sym, ◌∙◌, arith}
use Rattle.btf_types.specs.Links.{Passed}
use Rattle.btf_types.proofs.Resolving.{modifier-has_target, passed_all, passed_more, passed_none, passed_then, passed_to, passed_void}
use Rattle.btf_types.proofs.types.Types.resolve.Goals as goal

pub loop-passed-init : goal.loop-passed-init
loop-passed-init c = passed_none c.args.self.now c.args.number c.requires

pub returns-then-pass-eq0-clause-row : goal.returns-then-pass-eq0-clause-row
returns-then-pass-eq0-clause-row c row =
    let types = c.args.self.now in
    let w = passed_then types c.loop-passed.invariant c.link.ensures.pass in
    ((λ h. cc), (λ r. absurd (passed_void types w c.if-pass-eq0.true r)))

pub returns-then-not-is_modifier-clause-row : goal.returns-then-not-is_modifier-clause-row
returns-then-not-is_modifier-clause-row c =
    let types = c.args.self.now in
    let w = passed_then types c.loop-passed.invariant c.link.ensures.pass in
    passed_to types w c.type_at-row.ensures.row (sym c.is_modifier.ensures ∙ c.if-not-is_modifier.true)

pub loop-passed-preserved : goal.loop-passed-preserved
loop-passed-preserved c =
    let types = c.args.self.now in
    let w = passed_then types c.loop-passed.invariant c.link.ensures.pass in
    let passed = sym c.is_modifier.ensures ∙ c.if-not-is_modifier.false in
    let both : (c.loop-passed.passed + c.link.result.pass.steps) + 1 ≡ c.loop-passed.passed + (c.link.result.pass.steps + 1) = omega arith in
    subst (λ n. Passed types c.args.number c.type_at-row.result.now.size_or_target n) both
    (passed_more types w c.type_at-row.ensures.row passed (c.type_at-row.ensures.fits.target (modifier-has_target c.type_at-row.result.now.kind passed)))

pub returns-clause-row : goal.returns-clause-row
returns-clause-row c row =
    ((λ h. cc), (λ r. absurd (passed_all c.args.self.now c.loop-passed.invariant (omega (arith, c.len.ensures)) r)))
