use Rattle.std.proofs.Common.{arith, length, ◌≡◌}
use Rattle.std.proofs.lemmas.Bool.Decides.{nat_tests}
use Rattle.xdp_state.specs.declared.interface.Interface.{Interface}
use Rattle.script_text.proofs.HandedLemmas.{sound_interface}
use Rattle.script_text.proofs.line.interface_line.Goals as goal

pub returns-clause-sound : goal.returns-clause-sound
returns-clause-sound c =
    let none : length c.args.script.now.lines ≡ 0 = grind (arith, nat_tests, c.in_ok-queues.ensures.first) in
    let room = rw c.as_slice.ensures at c.in_ok-queues.ensures.room in
    let interface : Interface = record { name = c.in_ok-name.name; queues = c.in_ok-queues.queues } in
    rw c.in_ok-push.ensures.ok (sound_interface c.args.script.now interface c.requires room none)
