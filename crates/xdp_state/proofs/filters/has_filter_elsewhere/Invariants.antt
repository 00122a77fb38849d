use Rattle.std.proofs.Common.{◌≡◌, false, not, ◌&&◌}
use Rattle.std.specs.Prelude.{◌==◌}
use Rattle.std.specs.List.{list_any, range_with_len}
use Rattle.xdp_state.specs.Members.{chain_on, has_filter}
use Rattle.xdp_state.proofs.filters.has_filter_elsewhere.Given as goal

abbrev pub invariant-loop-interface : goal.invariant-loop-interface
invariant-loop-interface l = list_any (λ interface. not (interface == l.but) && has_filter (chain_on l.state.members interface)) (range_with_len 0 l.interface) ≡ false
