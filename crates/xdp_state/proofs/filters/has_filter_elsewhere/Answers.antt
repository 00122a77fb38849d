use Rattle.std.proofs.Common.{◌≡◌, ℕ, not, ◌&&◌, sym, ap, ◌∙◌, arith}
use Rattle.std.specs.Prelude.{◌==◌}
use Rattle.std.proofs.lemmas.Bool.Decides.{nat_tests}
use Rattle.xdp_state.specs.Members.{chain_on, has_filter}
use Rattle.xdp_state.proofs.Ranges.{any_found, any_more}
use Rattle.xdp_state.proofs.filters.has_filter_elsewhere.Goals as goal
use Rattle.xdp_state.proofs.filters.has_filter_elsewhere.Goals.{else-interface-but-via-then-interface-but+else-has_filter, else-interface-but-via-else-interface-but}

pub returns-then-has_filter : goal.returns-then-has_filter
returns-then-has_filter c =
    let has : has_filter (chain_on c.args.state.now.members c.loop-interface.interface) ≡ c.has_filter.result = ap has_filter (sym c.chain.ensures) ∙ sym c.has_filter.ensures in
    sym (any_found (λ interface. not (interface == c.args.but) && has_filter (chain_on c.args.state.now.members interface)) 8 c.loop-interface.interface (omega arith) (grind (arith, nat_tests, has, c.if-interface-but.true, c.if-has_filter.true)))

pub loop-interface-preserved : goal.loop-interface-preserved
loop-interface-preserved c =
    let elsewhere = λ (interface : ℕ). not (interface == c.args.but) && has_filter (chain_on c.args.state.now.members interface) in
    elim c.else-interface-but.branch [
      | else-interface-but-via-then-interface-but+else-has_filter w ↦
          let has : has_filter (chain_on c.args.state.now.members c.loop-interface.interface) ≡ w.has_filter.result = ap has_filter (sym w.chain.ensures) ∙ sym w.has_filter.ensures in
          any_more elsewhere c.loop-interface.interface c.loop-interface.invariant (grind (arith, nat_tests, has, w.if-has_filter.false))
      | else-interface-but-via-else-interface-but w ↦ any_more elsewhere c.loop-interface.interface c.loop-interface.invariant (grind (arith, nat_tests, w.if-interface-but.false))
    ]
