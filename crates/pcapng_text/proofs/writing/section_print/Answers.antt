use Rattle.pcapng_text.proofs.Framing.{framed-section, printed_same}
use Rattle.pcapng_text.proofs.writing.section_print.Goals as goal

pub returns : goal.returns
returns g c = printed_same c.block_print.ensures framed-section
