use Rattle.std.proofs.Common.{refl}
use Rattle.clap.specs.Simple.{app_of}
use Rattle.command_line.proofs.Reading.{found_by, refused_by}
use Rattle.command_line.proofs.parsing.parse.Goals as goal

pub returns-clause-found : goal.returns-clause-found
returns-clause-found c =
    found_by (app_of c.in_ok-command.field-0) c.args.words.now c.in_ok-matches.matches c.in_ok-command.ensures c.in_ok-matches.ensures.kinds
    c.in_ok-matches.ensures.matches

pub returns-in_err-matches-clause-not_taken : goal.returns-in_err-matches-clause-not_taken
returns-in_err-matches-clause-not_taken c = λ is.
    let gives = rw is at c.from_residual-in_err-matches.ensures.1 in
    refused_by (app_of c.in_ok-command.field-0) c.args.words.now c.in_err-matches.field-0.0 c.in_ok-command.ensures
    c.in_err-matches.ensures.kinds (gives refl)
