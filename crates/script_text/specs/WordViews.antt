-- The words of a line as the code keeps them.
use Rattle.std.specs.Prelude.{ℕ, List, Option}
use Rattle.std.specs.Borrow.{Bor}
use Rattle.std.specs.Option.{option_map}
use Rattle.script_text.specs.Options.{Arranged, PlainWords, arrangement}
use Rattle.script_text.specs.declared.arranged.Plain.{Plain}
use Rattle.script_text.specs.declared.arranged.Words.{Words}

abbrev pub word_of : Option (Bor (List ℕ)) → Option (List ℕ)
word_of word = option_map (λ w. w.now) word

abbrev pub plain_of : Plain → PlainWords
plain_of plain = record {
  first = word_of plain.first;
  second = word_of plain.second;
  name = word_of plain.name;
  section = word_of plain.section;
  names = word_of plain.names;
}

abbrev pub arranged_of : Words → Arranged
arranged_of words = arrangement words.given (plain_of words.plain)
