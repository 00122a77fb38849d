use Rattle.std.proofs.Common.{sym, ap, ◌∙◌, arith}
use Rattle.std.specs.List.{list_any}
use Rattle.xdp_state.specs.Members.{chain_on, has_feature}
use Rattle.xdp_state.proofs.Ranges.{any_found, any_more}
use Rattle.xdp_state.proofs.filters.is_on.Goals as goal

pub returns-then-has_feature : goal.returns-then-has_feature
returns-then-has_feature c =
    let feature = c.args.feature in
    sym (any_found (λ interface. list_any (λ member. has_feature feature member.kind) (chain_on c.args.state.now.members interface)) 8 c.loop-interface.interface (omega arith)
    (ap (list_any (λ member. has_feature feature member.kind)) (sym c.chain.ensures) ∙ sym c.has_feature.ensures ∙ c.if-has_feature.true))

pub loop-interface-preserved : goal.loop-interface-preserved
loop-interface-preserved c =
    let feature = c.args.feature in
    any_more (λ interface. list_any (λ member. has_feature feature member.kind) (chain_on c.args.state.now.members interface)) c.loop-interface.interface c.loop-interface.invariant
    (ap (list_any (λ member. has_feature feature member.kind)) (sym c.chain.ensures) ∙ sym c.has_feature.ensures ∙ c.if-has_feature.false)
