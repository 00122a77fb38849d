use Rattle.std.proofs.Common.{◌≡◌, true, false, arith}
use Rattle.std.proofs.lemmas.Grind.{common_steps}
use Rattle.script_text.specs.Options.{has_value}
use Rattle.script_text.proofs.ArrangedLemmas.{word-read, value-read}
use Rattle.script_text.proofs.arranged.take_word.Goals as goal

pub returns-then-not-has_value-clause-words : goal.returns-then-not-has_value-clause-words
returns-then-not-has_value-clause-words c =
    let none : has_value c.role_of-role.result ≡ false = grind (arith, common_steps, c.has_value.ensures, c.if-not-has_value.true) in
    word-read _ _ _ _ _ (rw c.role_of-role.ensures at none) (rw c.role_of-role.ensures at c.in_ok-words.ensures)

pub returns-clause-words : goal.returns-clause-words
returns-clause-words c =
    let some : has_value c.role_of-role.result ≡ true = grind (arith, common_steps, c.has_value.ensures, c.if-not-has_value.false) in
    rw c.in-Some.ensures.words (value-read _ _ _ _ _ _ (rw c.role_of-role.ensures at some) (rw c.role_of-role.ensures at c.in_ok-words-2.ensures))
