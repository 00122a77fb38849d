use Rattle.std.proofs.Common.{subst, arith, ◌≡◌, ◌+◌}
use Rattle.btf_types.specs.Links.{Passed}
use Rattle.btf_types.proofs.Resolving.{passed_then}
use Rattle.btf_types.proofs.link.Pass.then.Goals as goal

pub returns-in-Some : goal.returns-in-Some
returns-in-Some c types number first second =
    let steps : c.args.self.steps + c.args.next.steps ≡ c.in-Some.steps = omega arith in
    subst (λ n. Passed types number c.args.next.at n) steps (passed_then types first second)
