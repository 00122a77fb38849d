use Rattle.std.proofs.Common.{◌≡◌, [], replicate}
use Rattle.xdp_state.specs.declared.mode.Mode.TheVariants.{Native}
use Rattle.xdp_state.proofs.state.no_hooks.Given as goal

abbrev pub invariant-loop : goal.invariant-loop
invariant-loop l = l.hooks.items ≡ replicate l.counter (record { chain = []; mode = Native })
