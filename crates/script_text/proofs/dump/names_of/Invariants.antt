use Rattle.std.proofs.Common.{◌≡◌, length}
use Rattle.script_text.specs.Dump.{names_behind, names_of}
use Rattle.script_text.specs.Words.{parts_of}
use Rattle.script_text.proofs.dump.names_of.Given as goal

-- the names so far, with the parts that are left, are those of the list
abbrev pub invariant-loop-names : goal.invariant-loop-names
invariant-loop-names l = names_of l.fn.list ≡ names_behind l.names (parts_of 44 l.rest)

abbrev pub decreases-loop-names : goal.decreases-loop-names
decreases-loop-names l = length l.rest
