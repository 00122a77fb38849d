use Rattle.std.proofs.Common.{◌≡◌, ◌&&◌, drop}
use Rattle.std.specs.List.{list_all}
use Rattle.script_text.specs.TraceRead.{is_printed_digit}
use Rattle.script_text.proofs.hexadecimal.are_printed_digits.Given as goal

-- the bytes so far, and those that are left
abbrev pub invariant-loop-b : goal.invariant-loop-b
invariant-loop-b l = (l.printed && list_all is_printed_digit (drop l.b-index l.word)) ≡ list_all is_printed_digit l.word
