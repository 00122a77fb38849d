use Rattle.std.proofs.Common.{◌≡◌, ◌∙◌, ℕ, List, Some, None, length, sym, subst}
use Rattle.std.specs.Prelude.{is_ok}
use Rattle.dump_capture.proofs.Putting.{blocks-known, blocks-new, chosen-same, shown-known}
use Rattle.dump_capture.specs.Capture.{Puts, StopsBetween}
use Rattle.dump_capture.specs.Keys.{shown}
use Rattle.dump_capture.specs.Point.{plain_of}
use Rattle.dump_capture.proofs.capture.put_point.Goals as goal

pub returns-in-Some-clause-held : goal.returns-in-Some-clause-held
returns-in-Some-clause-held g c told =
    let known = blocks-known c.args.keys.now.written (plain_of c.args.point.now) c.in-Some.number (sym c.number_of.ensures ∙ c.in-Some.is) in
    subst (λ (blocks : List ℕ). Puts (g.K.Sink.held c.args.sink.now) (g.K.Sink.held c.put_packet.new.sink) c.put_packet.result blocks) (sym known) (c.put_packet.ensures.held told)

pub returns-in-Some-clause-within : goal.returns-in-Some-clause-within
returns-in-Some-clause-within g c =
    let known = blocks-known c.args.keys.now.written (plain_of c.args.point.now) c.in-Some.number (sym c.number_of.ensures ∙ c.in-Some.is) in
    subst (λ (blocks : List ℕ). StopsBetween 0 (length blocks) c.put_packet.result) (sym known) c.put_packet.ensures.within

pub returns-in-Some-clause-keys : goal.returns-in-Some-clause-keys
returns-in-Some-clause-keys g c =
    chosen-same (is_ok c.put_packet.result) c.args.keys.now _ (shown-known c.args.keys.now (plain_of c.args.point.now) c.in-Some.number (sym c.number_of.ensures ∙ c.in-Some.is))

pub returns-in-None-clause-held : goal.returns-in-None-clause-held
returns-in-None-clause-held g c told =
    let new = blocks-new c.args.keys.now.written (plain_of c.args.point.now) (sym c.number_of.ensures ∙ c.in-None.is) in
    subst (λ (blocks : List ℕ). Puts (g.K.Sink.held c.args.sink.now) (g.K.Sink.held c.put_first.new.sink) c.put_first.result blocks) (sym new) (c.put_first.ensures.held told)

pub returns-in-None-clause-within : goal.returns-in-None-clause-within
returns-in-None-clause-within g c =
    let new = blocks-new c.args.keys.now.written (plain_of c.args.point.now) (sym c.number_of.ensures ∙ c.in-None.is) in
    subst (λ (blocks : List ℕ). StopsBetween 0 (length blocks) c.put_first.result) (sym new) c.put_first.ensures.within
