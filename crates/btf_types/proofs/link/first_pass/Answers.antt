use Rattle.std.proofs.Common.{sym, ◌∙◌}
use Rattle.btf_types.proofs.Resolving.{modifier-has_target, passed_more, passed_none}
use Rattle.btf_types.proofs.link.first_pass.Goals as goal

pub returns-then-not-is_modifier : goal.returns-then-not-is_modifier
returns-then-not-is_modifier c = passed_none c.args.types.now c.args.number c.requires

pub returns : goal.returns
returns c =
    let types = c.args.types.now in
    let passed = sym c.is_modifier.ensures ∙ c.if-not-is_modifier.false in
    passed_more types (passed_none types c.args.number c.requires) c.type_at-row.ensures.row passed (c.type_at-row.ensures.fits.target (modifier-has_target c.type_at-row.result.now.kind passed))
