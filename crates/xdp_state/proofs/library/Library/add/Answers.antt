use Rattle.std.proofs.Common.{◌≡◌, ◌+◌, ◌≤◌, length, ap, ◌∙◌, arith}
use Rattle.std.proofs.lemmas.List.{take_all}
use Rattle.std.proofs.lemmas.Result.{on_ok_weaker}
use Rattle.xdp_state.specs.Library.{programs_in, programs_of}
use Rattle.xdp_state.specs.declared.library.ObjectRow.{ObjectRow}
use Rattle.std.proofs.Common.{List}
use Rattle.xdp_state.proofs.Programs.{sound-push}
use Rattle.xdp_state.proofs.library.Library.add.Goals as goal

pub returns-clause-sound : goal.returns-clause-sound
returns-clause-sound c =
    let old = c.args.self.now in
    let first = rw c.as_slice-objects.ensures at c.count_of-count.ensures in
    let counted : c.count_of-count.result ≡ length (programs_of old.objects) = first ∙ ap (λ (objects : List ObjectRow). length (programs_of objects)) (take_all (length old.objects) old.objects (omega arith)) in
    let few : length (programs_of old.objects) + length (programs_in c.args.object.loaded) ≤ 4294967295 = omega (arith, counted, c.if-count-programs.false, ap length c.programs.ensures) in
    on_ok_weaker c.push.result (λ done. rw done (sound-push old c.args.object c.requires.sound few c.requires.runnable)) c.push.ensures.ok
