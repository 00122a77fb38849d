use Rattle.std.proofs.Common.{◌≡◌, ◌+◌, ◌≤◌, length}
use Rattle.std.specs.Str.Lines.{lines}
use Rattle.script_text.specs.Handed.{IsSound}
use Rattle.script_text.specs.Script.{no_script, read_lines}
use Rattle.script_text.proofs.script.read_script.Given as goal

-- the lines that are left, read behind the script so far, give the whole script
abbrev pub invariant-loop-text : goal.invariant-loop-text
invariant-loop-text l = record {
  reading : read_lines l.script (l.line + 1) (lines l.rest) ≡ read_lines no_script 1 (lines l.bytes);
  count : l.line + length (lines l.rest) ≡ length (lines l.bytes);
  few : l.line ≤ 65536;
  sound : IsSound l.script;
  lines : length l.script.lines ≤ l.line;
}

abbrev pub decreases-loop-text : goal.decreases-loop-text
decreases-loop-text l = length l.rest
