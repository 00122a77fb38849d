use Rattle.std.proofs.Common.{◌≡◌, Some, refl, sym, subst}
use Rattle.xdp_state.specs.Library.{program_at}
use Rattle.xdp_state.specs.Stores.{AreReady, maps_of}
use Rattle.xdp_state.specs.Traversal.{setting_of}
use Rattle.xdp_state.proofs.Programs.{runnable_at}
use Rattle.xdp_state.proofs.Stores.{has_maps, ready-with_maps}
use Rattle.xdp_state.proofs.Ways.{program_ran}
use Rattle.xdp_state.proofs.own.way.visit_program.Goals as goal

pub run-requires-clause-code : goal.run-requires-clause-code
run-requires-clause-code c = (runnable_at c.args.library.now c.args.program c.in-Some.program.now c.requires.sound (sym c.in-Some.ensures)).code

pub run-requires-clause-maps : goal.run-requires-clause-maps
run-requires-clause-maps c =
    let there : program_at c.args.library.now c.args.program ≡ Some c.in-Some.program.now = sym c.in-Some.ensures in
    let runnable = runnable_at c.args.library.now c.args.program c.in-Some.program.now c.requires.sound there in
    let ready = rw there at c.requires.ready in
    rw runnable.count (has_maps c.args.machine.now.stores.items c.args.member.now.number c.in-Some.program.now ready)

pub returns-in-Some-clause-made : goal.returns-in-Some-clause-made
returns-in-Some-clause-made c = λ rows dump.
    program_ran (setting_of rows c.args.library.now dump c.args.env.now) c.args.machine.now.frame c.run.new.self.frame c.args.machine.now.stores.items c.run.new.self.stores.items c.args.member.now
    (program_at c.args.library.now c.args.program) c.in-Some.program.now c.run.result c.end_visit.result (sym c.in-Some.ensures) c.run.ensures.outcome c.run.ensures.stores c.end_visit.ensures

pub returns-in-Some-clause-ready : goal.returns-in-Some-clause-ready
returns-in-Some-clause-ready c = λ chain ready.
    subst (λ stores. AreReady c.args.library.now stores chain) (sym c.run.ensures.stores)
    (ready-with_maps c.args.library.now c.args.machine.now.stores.items c.args.member.now.number (maps_of c.run.new.self.stores.items c.args.member.now.number) chain ready)

pub returns-in-None-clause-made : goal.returns-in-None-clause-made
returns-in-None-clause-made c = λ rows dump. rw (sym c.in-None.ensures) refl

pub returns-in-None-clause-ready : goal.returns-in-None-clause-ready
returns-in-None-clause-ready c = λ chain ready. ready
