use Rattle.std.proofs.Common.{◌≡◌, ◌+◌, true, false, drop, length, refl, ap, ◌∙◌, arith}
use Rattle.std.proofs.lemmas.List.{drop_all}
use Rattle.xio.specs.Action.{has_action}
use Rattle.xdp_state.specs.Trails.{visits_in}
use Rattle.xdp_state.specs.Traversal.{Course, Setting, course_of, setting_of, way_from}
use Rattle.xdp_state.specs.declared.traversal.Visit.{Visit}
use Rattle.xdp_state.proofs.Stores.{ready_of}
use Rattle.xdp_state.proofs.Ways.{ends_here, front-decided, front-more, goes_on, passage_is, trail-more, visit_as, way_ends, with_front}
use Rattle.xdp_state.proofs.own.way.visit_all.Goals as goal

pub visit-seen-requires-clause-ready : goal.visit-seen-requires-clause-ready
visit-seen-requires-clause-ready c =
    ready_of c.args.library.now c.loop-place.machine.stores.items c.args.chain.now c.loop-place.place c.at-member.result.now c.loop-place.invariant.ready c.at-member.ensures.member

pub loop-place-init : goal.loop-place-init
loop-place-init c = record {
  way = rw c.requires.none refl;
  ready = c.requires.ready;
  even = c.requires.even;
  place = ap length c.requires.none;
}

pub returns-then-not-is_in-clause-way : goal.returns-then-not-is_in-clause-way
returns-then-not-is_in-clause-way c =
    let setting : Setting = setting_of c.args.rules.now c.args.library.now c.args.dump c.args.env.now in
    let before : Course = course_of c.loop-place.machine.frame c.loop-place.machine.stores.items in
    let behind : Course = course_of c.visit-seen.new.machine.frame c.visit-seen.new.machine.stores.items in
    let member = c.at-member.result.now in
    let seen = c.visit-seen.result in
    let visit : Visit = visit_as setting member seen before behind in
    let old = c.loop-place.trail in
    let stops : has_action member.mask seen.action ≡ false = grind (arith, c.is_in.ensures, c.if-not-is_in.true) in
    let here = passage_is setting before behind member seen (c.visit-seen.ensures.made c.args.dump) in
    let more = trail-more setting member seen before behind c.snaps_of-snaps.result old c.enter.new.self c.leave.new.self c.loop-place.invariant.even c.snaps_of-snaps.ensures
    c.enter.ensures.entries c.enter.ensures.exits c.enter.ensures.seen c.leave.ensures.seen c.leave.ensures.entries c.leave.ensures.exits c.leave.ensures.room in
    c.loop-place.invariant.way
    ∙ ap (with_front (visits_in old)) (ends_here setting before c.args.chain.now c.loop-place.place member seen visit behind c.at-member.ensures.member here stops)
    ∙ rw more.visits (front-decided (visits_in old) seen visit behind)

pub loop-place-preserved : goal.loop-place-preserved
loop-place-preserved c =
    let setting : Setting = setting_of c.args.rules.now c.args.library.now c.args.dump c.args.env.now in
    let before : Course = course_of c.loop-place.machine.frame c.loop-place.machine.stores.items in
    let behind : Course = course_of c.visit-seen.new.machine.frame c.visit-seen.new.machine.stores.items in
    let member = c.at-member.result.now in
    let seen = c.visit-seen.result in
    let visit : Visit = visit_as setting member seen before behind in
    let old = c.loop-place.trail in
    let goes : has_action member.mask seen.action ≡ true = grind (arith, c.is_in.ensures, c.if-not-is_in.false) in
    let here = passage_is setting before behind member seen (c.visit-seen.ensures.made c.args.dump) in
    let more = trail-more setting member seen before behind c.snaps_of-snaps.result old c.enter.new.self c.leave.new.self c.loop-place.invariant.even c.snaps_of-snaps.ensures
    c.enter.ensures.entries c.enter.ensures.exits c.enter.ensures.seen c.leave.ensures.seen c.leave.ensures.entries c.leave.ensures.exits c.leave.ensures.room in
    record {
      way =
          c.loop-place.invariant.way
          ∙ ap (with_front (visits_in old)) (goes_on setting before c.args.chain.now c.loop-place.place member seen visit behind c.at-member.ensures.member here goes)
          ∙ rw more.visits (front-more (visits_in old) visit (way_from setting behind (drop (c.loop-place.place + 1) c.args.chain.now)));
      ready = c.visit-seen.ensures.ready c.args.chain.now c.loop-place.invariant.ready;
      even = more.even;
      place = omega (arith, more.many, c.loop-place.invariant.place);
    }

pub returns-clause-way : goal.returns-clause-way
returns-clause-way c =
    let at : Setting = setting_of c.args.rules.now c.args.library.now c.args.dump c.args.env.now in
    let course : Course = course_of c.loop-place.machine.frame c.loop-place.machine.stores.items in
    c.loop-place.invariant.way
    ∙ ap (λ chain. with_front (visits_in c.loop-place.trail) (way_from at course chain)) (drop_all c.loop-place.place c.args.chain.now (omega (arith, c.len-place-end.ensures.value, c.loop-place-test.false)))
    ∙ way_ends at course (visits_in c.loop-place.trail)
