use Rattle.std.proofs.Common.{◌≡◌, rules, refl, ap, ◌∙◌}
use Rattle.xio.specs.Causes.{HasCause}
use Rattle.xio.specs.Prefixes.{AppendsPrefix}
use Rattle.xdp_state.specs.Sums.{past_with}
use Rattle.xdp_tool.specs.PhaseEnd.{PutsText}
use Rattle.xdp_tool.specs.Texts.{phase_text}
use Rattle.xdp_tool.proofs.Writing.{cause-on, cut-short, passed-on}
use Rattle.xdp_tool.proofs.write.write_out.Goals as goal

pub returns-in-Ok-clause-text : goal.returns-in-Ok-clause-text
returns-in-Ok-clause-text g c = λ tells begun phase past carried shows is.
    let p = c.in-Ok.ensures.prints begun phase past carried shows is in
    let put : PutsText c.pass_on.result (g.O.Sink.held c.args.out.now) (g.O.Sink.held c.pass_on.new.sink) (phase_text c.args.shown.now.library.now phase past (past_with past carried)) =
    passed-on _ _ _ _ _ _ _ _ _ _ _ _ _ _ _ c.pass_on.result c.requires.waiting p c.pass_on.ensures.prints c.pass_on.ensures.empty tells
    in search (rules, p.setting, put)

pub returns-in-Ok-clause-cause : goal.returns-in-Ok-clause-cause
returns-in-Ok-clause-cause g c =
    let w = c.requires.ready in
    let p = c.in-Ok.ensures.prints w.begun w.phase w.past w.carried w.shows w.is in
    let cause : HasCause (g.O.Sink.faults c.args.out.now) (g.O.Sink.faults c.pass_on.new.sink) c.pass_on.result =
    cause-on _ _ _ c.pass_on.result (p.cause refl) (c.pass_on.ensures.prints.cause refl)
    in search (rules, p.setting, cause)

pub returns-in-Ok-clause-same_setting : goal.returns-in-Ok-clause-same_setting
returns-in-Ok-clause-same_setting g c =
    let w = c.requires.ready in
    let p = c.in-Ok.ensures.prints w.begun w.phase w.past w.carried w.shows w.is in
    let same : g.O.Sink.setting c.pass_on.new.sink ≡ g.O.Sink.setting c.args.out.now = c.pass_on.ensures.prints.setting ∙ ap (λ s. s.setting) p.setting
    in search (rules, p.setting, same)

pub returns-in-Ok-clause-waiting : goal.returns-in-Ok-clause-waiting
returns-in-Ok-clause-waiting g c =
    let w = c.requires.ready in
    let p = c.in-Ok.ensures.prints w.begun w.phase w.past w.carried w.shows w.is in
    search (rules, p.setting, c.pass_on.ensures.empty)

pub returns-in-Err-clause-text : goal.returns-in-Err-clause-text
returns-in-Err-clause-text g c = λ tells begun phase past carried shows is.
    let p = c.in-Err.ensures.prints begun phase past carried shows is in
    let put : AppendsPrefix (g.O.Sink.held c.args.out.now) (g.O.Sink.held c.phase_print-printed.new.printer.sink.now) (phase_text c.args.shown.now.library.now phase past (past_with past carried)) =
    cut-short _ _ _ _ _ _ _ _ _ _ _ c.requires.waiting p tells
    in (put.0, search (rules, p.setting, put.1))
