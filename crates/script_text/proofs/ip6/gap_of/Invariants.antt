use Rattle.std.proofs.Common.{◌≡◌, ◌+◌, ◌-◌, drop}
use Rattle.std.specs.Option.{option_map}
use Rattle.script_text.specs.Addresses.{gap_of}
use Rattle.script_text.proofs.ip6.gap_of.Given as goal

-- no `::` stands before this place
abbrev pub invariant-loop-behind : goal.invariant-loop-behind
invariant-loop-behind l = gap_of l.text ≡ option_map (λ place. place + (l.behind - 1)) (gap_of (drop (l.behind - 1) l.text))
