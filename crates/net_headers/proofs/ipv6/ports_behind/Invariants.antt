use Rattle.std.proofs.Common.{◌≡◌, ◌-◌}
use Rattle.net_headers.specs.Ipv6.{ports_behind}
use Rattle.net_headers.proofs.ipv6.ports_behind.Given as goal

-- what is left to pass gives the ports of the whole
abbrev pub invariant-loop : goal.invariant-loop
invariant-loop l = ports_behind (6 - l.counter) l.next_header l.rest ≡ ports_behind 6 l.fn.next_header l.fn.payload
