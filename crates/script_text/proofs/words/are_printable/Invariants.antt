use Rattle.std.proofs.Common.{◌≡◌, ◌&&◌, drop}
use Rattle.std.specs.List.{list_all}
use Rattle.script_text.specs.Words.{is_printable}
use Rattle.script_text.proofs.words.are_printable.Given as goal

-- the bytes so far, and those that are left
abbrev pub invariant-loop-b : goal.invariant-loop-b
invariant-loop-b l = (l.printable && list_all is_printable (drop l.b-index l.line)) ≡ list_all is_printable l.line
