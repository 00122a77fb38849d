use Rattle.std.proofs.Common.{◌≡◌, ◌+◌, length}
use Rattle.std.specs.Str.Lines.{lines}
use Rattle.script_text.proofs.lines.has_more_lines.Given as goal

-- the lines that were passed, and those that are left
abbrev pub invariant-loop : goal.invariant-loop
invariant-loop l = length (lines l.bytes) ≡ l.counter + length (lines l.rest)
