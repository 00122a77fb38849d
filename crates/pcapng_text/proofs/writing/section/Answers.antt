use Rattle.pcapng_text.specs.ReadBack.{ReadsAsSection}
use Rattle.pcapng_text.proofs.Framing.{printed_alone}
use Rattle.pcapng_text.proofs.ReadBack.{section-read_back}
use Rattle.pcapng_text.proofs.writing.section.Goals as goal

pub returns-clause-read_back : goal.returns-clause-read_back
returns-clause-read_back c = printed_alone ReadsAsSection c.in_ok-section_print.ensures c.new-bytes.ensures section-read_back
