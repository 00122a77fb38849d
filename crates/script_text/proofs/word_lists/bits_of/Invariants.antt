use Rattle.std.proofs.Common.{◌≡◌, length}
use Rattle.script_text.specs.Lists.{bits_behind, bits_of}
use Rattle.script_text.specs.Words.{parts_of}
use Rattle.script_text.proofs.word_lists.bits_of.Given as goal

-- the bits so far, with the parts that are left, are those of the list
abbrev pub invariant-loop-bit : goal.invariant-loop-bit
invariant-loop-bit l = bits_of l.names l.list ≡ bits_behind l.names l.bits (parts_of 44 l.rest)

abbrev pub decreases-loop-bit : goal.decreases-loop-bit
decreases-loop-bit l = length l.rest
