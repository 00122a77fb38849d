use Rattle.std.proofs.Common.{sym, ◌∙◌, ap}
use Rattle.dispatch_plane.proofs.Adding.{adds}
use Rattle.dispatch_plane.proofs.history.Head.try_add.Goals as goal

pub compare_exchange-found-requires : goal.compare_exchange-found-requires
compare_exchange-found-requires c =
    let word = c.self.invariant in
    let offer = c.plain-offer.ensures in
    let pen = c.no_pen-pen.ensures in
    let same = ap (λ trace. trace.plane) c.front.view_is ∙ (c.requires ∙ sym c.self.view_is) in (
      ap (λ w. w.tracked) word,
      same ∙ sym (ap (λ w. w.book) word),
      pen.0 ∙ (same ∙ sym (ap (λ w. w.book) word)),
      offer.0,
      rw (ap (λ w. w.key) word, pen.1, offer.1, offer.3) (adds c.front.inside.seen.log c.args.entry.now c.front.inside.len (sym c.front.invariant)),
    )
