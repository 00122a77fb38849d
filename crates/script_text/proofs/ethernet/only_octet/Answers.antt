use Rattle.std.proofs.Common.{arith}
use Rattle.script_text.proofs.EthernetLemmas.{octets_of-other}
use Rattle.script_text.proofs.ethernet.only_octet.Goals as goal

pub returns-in_default-2-clause-none : goal.returns-in_default-2-clause-none
returns-in_default-2-clause-none c = octets_of-other c.args.text.now (omega (arith, c.in_default.len_at_least))
