use Rattle.std.proofs.Common.{arith, ◌∙◌, sym}
use Rattle.std.proofs.lemmas.List.{take_rest}
use Rattle.net_headers.proofs.Walk.{ipv6_ports-whole}
use Rattle.net_headers.proofs.ipv6.read.Goals as goal

pub returns-clause-ports : goal.returns-clause-ports
returns-clause-ports c = (rw take_rest at c.ports_behind.ensures) ∙ sym (ipv6_ports-whole c.args.packet.now (omega arith))
