use Rattle.std.proofs.Common.{◌≡◌, length}
use Rattle.script_text.specs.TraceRead.{counts_of, no_counts, read_from}
use Rattle.script_text.specs.Words.{parts_of}
use Rattle.script_text.proofs.trace_read.read_lines.Given as goal

-- the lines that are left, read behind what was read so far, give the whole trace
abbrev pub invariant-lines : goal.invariant-lines
invariant-lines l = read_from (counts_of l.read) l.line (parts_of 10 l.rest) ≡ read_from no_counts 2 (parts_of 10 l.lines)

abbrev pub decreases-lines : goal.decreases-lines
decreases-lines l = length l.rest
