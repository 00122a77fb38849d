use Rattle.std.proofs.Common.{List, subst}
use mathlib.Core.List.{IsPrefix}
use Rattle.xdp_state.specs.declared.change.Change.{Change}
use Rattle.dispatch_plane.specs.History.{committed, shown}
use Rattle.dispatch_plane.proofs.Histories.{committed_grows}
use Rattle.dispatch_plane.proofs.port.Port.learn.Goals as goal

pub returns : goal.returns
returns c =
    let told = c.learn.new.self in
    let lens = c.self.inside.lens in
    let learnt = committed_grows c.front.result.now.log told.log c.learn.ensures.learnt in
    rw (← c.self.view_is) (record {
      kept = committed_grows c.self.inside.told.log told.log c.learn.ensures.kept;
      learnt = subst (λ (changes : List Change). IsPrefix changes (committed told.log)) c.front.ensures.changes learnt;
      same = λ i. record { plane = c.learn.ensures.same i; seen = shown lens.seen.log; told = committed told.log; inside = lens.inside; seated = lens.seated; misses = lens.misses };
    })
