use Rattle.std.proofs.Common.{◌≡◌, ◌∙◌, ◌-◌, ◌<◌, ap, sym, subst, IsTrue, List, None, length, take}
use Rattle.std.proofs.lemmas.Bool.{not-false, not-true}
use Rattle.dump_capture.proofs.Knowing.{with_key-known, with_key-written}
use Rattle.dump_capture.proofs.Undoing.{made-forgotten, made-waits, shown-with_key, with_key-same}
use Rattle.dump_capture.specs.Keys.{Keys, is_known, number_of, shown}
use Rattle.dump_capture.specs.Point.{plain_of}
use Rattle.dump_capture.specs.declared.key.Key.{Key}
use Rattle.dump_capture.proofs.capture.put_first.Goals as goal

pub show-requires-clause-known : goal.show-requires-clause-known
show-requires-clause-known g c =
    let point = plain_of c.args.point.now in
    subst (λ (made : Keys). IsTrue (is_known made point)) (sym c.in_ok-made.ensures.ok) (with_key-known c.args.keys.now point)

pub show-requires-clause-unwritten : goal.show-requires-clause-unwritten
show-requires-clause-unwritten g c =
    let point = plain_of c.args.point.now in
    ap (λ (made : Keys). number_of made.written point) c.in_ok-made.ensures.ok
    ∙ (ap (λ (written : List Key). number_of written point) (with_key-written c.args.keys.now point) ∙ c.requires.unwritten)

pub returns-in-Ok-clause-keys : goal.returns-in-Ok-clause-keys
returns-in-Ok-clause-keys g c =
    let point = plain_of c.args.point.now in
    c.show.ensures ∙ (ap (λ (made : Keys). shown made point) c.in_ok-made.ensures.ok ∙ shown-with_key c.args.keys.now point c.requires.unwritten)

pub forget-requires : goal.forget-requires
forget-requires g c =
    let point = plain_of c.args.point.now in
    let unknown = not-true (is_known c.args.keys.now point) (sym c.in_ok-made.ensures.made ∙ c.if-made.true) in
    subst (λ (made : Keys). 0 < length made.waiting) (sym c.in_ok-made.ensures.ok) (made-waits c.args.keys.now point unknown)

pub returns-in-Err-clause-keys : goal.returns-in-Err-clause-keys
returns-in-Err-clause-keys g c =
    let point = plain_of c.args.point.now in
    let unknown = not-true (is_known c.args.keys.now point) (sym c.in_ok-made.ensures.made ∙ c.if-made.true) in
    c.forget.ensures
    ∙ (ap (λ (made : Keys). record made { waiting = take (length made.waiting - 1) made.waiting }) c.in_ok-made.ensures.ok ∙ made-forgotten c.args.keys.now point unknown)

pub returns-clause-keys : goal.returns-clause-keys
returns-clause-keys g c =
    let point = plain_of c.args.point.now in
    let known = not-false (is_known c.args.keys.now point) (sym c.in_ok-made.ensures.made ∙ c.if-made.false) in
    c.in_ok-made.ensures.ok ∙ with_key-same c.args.keys.now point known
