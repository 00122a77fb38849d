use Rattle.std.proofs.Common.{ap, subst, List}
use mathlib.Core.List.{IsPrefix}
use Rattle.dispatch_plane.specs.Trace.{Trace}
use Rattle.dispatch_plane.specs.declared.entry.Entry.{Entry}
use Rattle.dispatch_plane.proofs.history.Front.beside.Goals as goal

pub returns : goal.returns
returns c =
    let whole = c.learn.new.self.log in
    let mine : IsPrefix c.self.inside.seen.log whole = subst (λ (l : List Entry). IsPrefix l whole) (ap (λ s. s.log) c.again-both.ensures) c.learn.ensures.2 in
    record {
      whole = whole;
      begins = subst (λ (t : Trace). IsPrefix t.log whole) c.self.view_is mine;
      begins_too = subst (λ (t : Trace). IsPrefix t.log whole) c.other.view_is c.learn.ensures.3;
    }
