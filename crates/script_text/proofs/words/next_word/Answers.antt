use Rattle.std.proofs.Common.{sym}
use Rattle.std.proofs.lemmas.List.{take_rest}
use Rattle.script_text.proofs.WordLemmas.{first_word, last_word}
use Rattle.script_text.proofs.words.next_word.Goals as goal

pub returns-in-Some-word_end-clause-words : goal.returns-in-Some-word_end-clause-words
returns-in-Some-word_end-clause-words c =
    let ends = simp take_rest at c.in-Some-word_end.ensures in
    simp take_rest (first_word _ _ _ (sym c.in-Some.ensures) (sym ends))

pub returns-in-None-clause-words : goal.returns-in-None-clause-words
returns-in-None-clause-words c =
    let ends = simp take_rest at c.in-None.ensures in
    simp take_rest (last_word _ _ (sym c.in-Some.ensures) (sym ends))
