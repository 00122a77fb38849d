use Rattle.std.proofs.Common.{rules}
use Rattle.elf_objects.proofs.FirstBreak.{first_break_is_first, never_broken}
use Rattle.elf_objects.proofs.object.read_object.Goals as goal

pub returns-in-Err-clause-first : goal.returns-in-Err-clause-first
returns-in-Err-clause-first c = first_break_is_first c.args.bytes.now

pub returns-in_err-read_sound-clause-first : goal.returns-in_err-read_sound-clause-first
returns-in_err-read_sound-clause-first c = first_break_is_first c.args.bytes.now

pub returns-clause-first : goal.returns-clause-first
returns-clause-first c = first_break_is_first c.args.bytes.now

pub returns-clause-sound : goal.returns-clause-sound
returns-clause-sound c = never_broken c.args.bytes.now (search rules)
