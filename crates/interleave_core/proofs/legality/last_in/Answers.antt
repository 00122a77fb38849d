use Rattle.std.proofs.Common.{◌≡◌, ◌-◌, [], length, slice_get, unwrap_or, ap, sym, ◌∙◌}
use Rattle.std.proofs.lemmas.Option.{get_or_from_slice_get}
use Rattle.interleave_core.proofs.LastCounts.{last_of-get}
use Rattle.xdp_state.specs.Legal.{last_of}
use Rattle.interleave_core.proofs.legality.last_in.Goals as goal

pub returns : goal.returns
returns c =
    let row : c.copied.result ≡ slice_get c.at.result.now (length c.at.result.now - 1) =
    c.copied.ensures ∙ c.last.ensures.value ∙ ap (λ xs. slice_get xs (length xs - 1)) c.as_slice.ensures in
    λ last. ap (λ o. unwrap_or o last) row ∙ last_of-get last c.at.result.now ∙ ap (last_of last) (sym (get_or_from_slice_get c.args.counts.now c.args.processor c.at.result.now [] c.at.ensures))
