-- What `clap` finds, by what the words give.
use Rattle.std.specs.Prelude.{◌≡◌, true, List, codes}
use Rattle.clap.specs.Matches.{first_value, found_of}
use Rattle.clap.specs.declared.parser.matches.ArgMatches.{ArgMatches}
use Rattle.command_line.specs.Given.{Given, are_taken, positional_of, value_of}

pub record Finds (given : List Given) (matches : ArgMatches) : Type 0 where
  pub taken : are_taken given ≡ true
  pub script : first_value (found_of matches) (codes "script") ≡ positional_of given
  pub capture : first_value (found_of matches) (codes "capture") ≡ value_of (codes "capture") given
  pub trace : first_value (found_of matches) (codes "trace") ≡ value_of (codes "trace") given
  pub replay : first_value (found_of matches) (codes "replay") ≡ value_of (codes "replay") given
