use Rattle.std.proofs.Common.{◌≡◌, List, [], subst, sym, arith}
use Rattle.std.specs.List.{All}
use Rattle.std.proofs.lemmas.List.Elements.{All-push}
use Rattle.dispatch_plane.specs.Sight.{Sight, Joins, Ends}
use Rattle.dispatch_plane.proofs.PortLists.{all_front}
use Rattle.dispatch_plane.proofs.plane.close_plane.Goals as goal

pub ports-preserved : goal.ports-preserved
ports-preserved g c =
    let plane = c.args.publisher.plane in
    let changes = c.args.publisher.changes in
    record {
      joins = all_front (Joins plane) c.pop.new.self c.in-Some.port (subst (λ (ps : List Sight). All (Joins plane) ps) c.in-Some.ensures c.ports.invariant.joins);
      ends = λ rest. c.ports.invariant.ends (subst (λ (ps : List Sight). All (Ends changes) ps) (sym c.in-Some.ensures) (All-push (Ends changes) c.pop.new.self c.in-Some.port rest c.settle.ensures));
    }

pub returns-clause-ports : goal.returns-clause-ports
returns-clause-ports g c =
    let none : c.ports.rest ≡ [] = c.in_default.ensures in
    c.ports.invariant.ends (subst (λ (ps : List Sight). All (Ends c.args.publisher.changes) ps) (sym none) (λ k d below. absurd (omega arith)))
