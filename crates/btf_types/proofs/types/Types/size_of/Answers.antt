use Rattle.std.proofs.Common.{◌≡◌, ◌+◌, refl, sym, arith, subst}
use Rattle.btf_types.specs.Links.{Walked}
use Rattle.btf_types.specs.Size.{IsEndless}
use Rattle.btf_types.proofs.SizeWalk.{absent_not_endless, absent_not_sized, endless_not_sized, own_not_endless, walked_elements, walked_endless, walked_none, walked_target, walked_then, walked_to_own}
use Rattle.btf_types.proofs.types.Types.size_of.Goals as goal

pub loop-steps-init : goal.loop-steps-init
loop-steps-init c = rw c.none-scale.ensures (record {
  bounded = record { product = omega arith; largest = omega arith };
  walked = walked_none c.args.self.now c.args.number _ refl refl c.requires;
})

pub returns-in-Own-clause-known : goal.returns-in-Own-clause-known
returns-in-Own-clause-known c total =
    let types = c.args.self.now in
    let w = walked_then types c.loop-steps.invariant.walked c.link.ensures.walk.walked c.around-around.ensures.scales in
    let by_scale = c.scaled.ensures.known total in
    let by_size = walked_to_own types w (sym c.in-Own.ensures.sizing) c.scaled.ensures.small total in
    ((λ h. by_size.1 (by_scale.0 h)), (λ h. by_scale.1 (by_size.0 h)))

pub returns-in-Own-clause-endless : goal.returns-in-Own-clause-endless
returns-in-Own-clause-endless c =
    let types = c.args.self.now in
    let w = walked_then types c.loop-steps.invariant.walked c.link.ensures.walk.walked c.around-around.ensures.scales in
    ((λ h. absurd (c.scaled.ensures.ends h)), (λ h. absurd (own_not_endless types w (sym c.in-Own.ensures.sizing) h)))

pub returns-in-Absent-clause-known : goal.returns-in-Absent-clause-known
returns-in-Absent-clause-known c total =
    let types = c.args.self.now in
    let w = walked_then types c.loop-steps.invariant.walked c.link.ensures.walk.walked c.around-around.ensures.scales in
    ((λ h. cc), (λ h. absurd (absent_not_sized types w (sym c.in-Absent.ensures.sizing) h)))

pub returns-in-Absent-clause-endless : goal.returns-in-Absent-clause-endless
returns-in-Absent-clause-endless c =
    let types = c.args.self.now in
    let w = walked_then types c.loop-steps.invariant.walked c.link.ensures.walk.walked c.around-around.ensures.scales in
    ((λ h. cc), (λ h. absurd (absent_not_endless types w (sym c.in-Absent.ensures.sizing) h)))

-- after the loop there were more references than types
walked_all : (c : goal.After-loop-steps) → IsEndless c.args.self.now c.args.number
walked_all c = walked_endless c.args.self.now c.loop-steps.invariant.walked (omega (arith, c.len.ensures))

pub returns-clause-known : goal.returns-clause-known
returns-clause-known c total = ((λ h. cc), (λ h. absurd (endless_not_sized c.args.self.now (walked_all c) h)))

pub returns-clause-endless : goal.returns-clause-endless
returns-clause-endless c = ((λ h. walked_all c), (λ h. refl))

pub loop-steps-preserved-in-OfTarget : goal.loop-steps-preserved-in-OfTarget
loop-steps-preserved-in-OfTarget c =
    let types = c.args.self.now in
    let w = walked_then types c.loop-steps.invariant.walked c.link.ensures.walk.walked c.around-around.ensures.scales in
    let both : (c.loop-steps.steps + c.link.result.walk.steps) + 1 ≡ c.loop-steps.steps + (c.link.result.walk.steps + 1) = omega arith in
    record {
      bounded = c.around-around.ensures.bounded;
      walked =
          subst (λ n. Walked types c.args.number c.in-OfTarget.target n c.around-around.result) both
          (walked_target types w (sym c.in-OfTarget.ensures.sizing) c.in-OfTarget.ensures.in_range);
    }

pub loop-steps-preserved : goal.loop-steps-preserved
loop-steps-preserved c =
    let types = c.args.self.now in
    let w = walked_then types c.loop-steps.invariant.walked c.link.ensures.walk.walked c.around-around.ensures.scales in
    let both : (c.loop-steps.steps + c.link.result.walk.steps) + 1 ≡ c.loop-steps.steps + (c.link.result.walk.steps + 1) = omega arith in
    record {
      bounded = c.of_elements-scale.ensures.bounded;
      walked =
          subst (λ n. Walked types c.args.number c.in-OfElements.element n c.of_elements-scale.result) both
          (walked_elements types w (sym c.in-OfElements.ensures.sizing) c.in-OfElements.ensures.in_range c.of_elements-scale.ensures.scales);
    }
