use Rattle.std.proofs.Common.{sym, ◌∙◌, arith}
use Rattle.std.proofs.lemmas.List.{take_rest}
use Rattle.script_text.proofs.EthernetLemmas.{octets_of-front}
use Rattle.script_text.proofs.ethernet.split_octet.Goals as goal

pub returns-clause-found : goal.returns-clause-found
returns-clause-found c =
    simp take_rest (octets_of-front c.args.text.now c.in_ok-octet.octet (omega arith) (omega arith) (sym c.octet_of.ensures ∙ c.in_ok-octet.was))
