use Rattle.std.proofs.Common.{sym, ap, ◌∙◌, arith}
use Rattle.xdp_state.specs.Members.{chain_on, has_filter}
use Rattle.xdp_state.proofs.Ranges.{any_found, any_more}
use Rattle.xdp_state.proofs.filters.has_filter_somewhere.Goals as goal

pub returns-then-has_filter : goal.returns-then-has_filter
returns-then-has_filter c =
    sym (any_found (λ interface. has_filter (chain_on c.args.state.now.members interface)) 8 c.loop-interface.interface (omega arith)
    (ap has_filter (sym c.chain.ensures) ∙ sym c.has_filter.ensures ∙ c.if-has_filter.true))

pub loop-interface-preserved : goal.loop-interface-preserved
loop-interface-preserved c =
    any_more (λ interface. has_filter (chain_on c.args.state.now.members interface)) c.loop-interface.interface c.loop-interface.invariant
    (ap has_filter (sym c.chain.ensures) ∙ sym c.has_filter.ensures ∙ c.if-has_filter.false)
