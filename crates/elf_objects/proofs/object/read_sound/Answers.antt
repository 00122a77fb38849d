use Rattle.elf_objects.proofs.Soundness.{sound}
use Rattle.elf_objects.proofs.object.read_sound.Goals as goal

pub read_sections-requires : goal.read_sections-requires
read_sections-requires c = (sound c.args.file.now c.requires).contents.headers

pub read_symbols-requires : goal.read_symbols-requires
read_symbols-requires c = (sound c.args.file.now c.requires).contents

pub read-requires-clause-header : goal.read-requires-clause-header
read-requires-clause-header c = (sound c.args.file.now c.requires).contents.headers.header

pub section_names-requires : goal.section_names-requires
section_names-requires c = (sound c.args.file.now c.requires).contents

pub symbol_names-requires-clause-contents : goal.symbol_names-requires-clause-contents
symbol_names-requires-clause-contents c = (sound c.args.file.now c.requires).contents

pub symbol_names-requires-clause-table : goal.symbol_names-requires-clause-table
symbol_names-requires-clause-table c = (sound c.args.file.now c.requires).symbol_table
