use Rattle.std.proofs.Common.{subst, arith, ◌≡◌, ◌+◌}
use Rattle.btf_types.specs.Links.{Walked}
use Rattle.btf_types.proofs.SizeWalk.{walked_then}
use Rattle.btf_types.proofs.link.Walk.then.Goals as goal

pub returns-in-Some : goal.returns-in-Some
returns-in-Some c types number first second =
    let steps : c.args.self.steps + c.args.next.steps ≡ c.in-Some.steps = omega arith in
    record {
      walked = subst (λ n. Walked types number c.args.next.at n c.around.result) steps (walked_then types first.walked second.walked c.around.ensures.scales);
      bounded = c.around.ensures.bounded;
    }
