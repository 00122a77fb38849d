use Rattle.std.proofs.Common.{ℕ, List, ◌++◌, ◌∙◌, ap}
use Rattle.std.specs.Prelude.{codes}
use Rattle.pcapng_text.proofs.Framing.{printed_same}
use Rattle.pcapng_text.specs.Written.{option_bytes}
use Rattle.pcapng_text.proofs.option_print.publications_print.Goals as goal

pub returns : goal.returns
returns g c =
    printed_same c.option_print.ensures
    (ap (λ (digits : List ℕ). option_bytes 1 (codes "publication=" ++ digits)) (c.as_bytes-digits.ensures.value ∙ c.format.ensures.text))
