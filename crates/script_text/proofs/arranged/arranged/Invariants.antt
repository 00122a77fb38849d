use Rattle.std.proofs.Common.{◌≡◌, length}
use Rattle.script_text.specs.Options.{arrangement, none_given, no_plain, arranged_behind}
use Rattle.script_text.specs.WordViews.{arranged_of}
use Rattle.script_text.specs.Words.{words_of}
use Rattle.script_text.proofs.arranged.arranged.Given as goal

-- the words so far, with those that are left, are those of the line
abbrev pub invariant-loop-word : goal.invariant-loop-word
invariant-loop-word l =
    arranged_behind l.verb (arrangement none_given no_plain) (words_of l.line) ≡ arranged_behind l.verb (arranged_of l.words) (words_of l.rest)

abbrev pub decreases-loop-word : goal.decreases-loop-word
decreases-loop-word l = length l.rest
