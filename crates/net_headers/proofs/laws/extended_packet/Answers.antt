use Rattle.net_headers.proofs.Chain.{ipv6_ports-chain}
use Rattle.net_headers.proofs.laws.extended_packet.Goals as goal

pub returns : goal.returns
returns c = ipv6_ports-chain
