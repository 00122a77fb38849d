use Rattle.std.proofs.Common.{◌≡◌, ℕ, ◌++◌, List, take, drop, true, false, Err, arith, ap, sym, ◌∙◌}
use Rattle.std.proofs.lemmas.Result.{err_from_is_err_and}
use Rattle.pcapng_text.specs.Reading.{block_step, has_ended, head_of, step}
use Rattle.pcapng_text.proofs.Next.{came-head, came-rest, ended-left, ended-rest, ended-step, ended-taken, enough, fault_early, fault_later, finished, head-rest, refused, started, starts-same}
use Rattle.pcapng_text.proofs.Walk.{takes_block}
use Rattle.pcapng_text.proofs.blocks.next_block.Goals as goal

pub returns-in_err-fill-clause-fault : goal.returns-in_err-fill-clause-fault
returns-in_err-fill-clause-fault g c told fault =
    let p = err_from_is_err_and c.from_residual.result c.from_residual.ensures.1 in
    fault_early _ _ _ _ _ _ c.in_err-fill.field-0.0 _ c.clear.ensures (c.in_err-fill.ensures.cut told) (rw p.2 at p.1) fault

pub returns-then-has_ended-clause-step : goal.returns-then-has_ended-clause-step
returns-then-has_ended-clause-step g c told =
    let rest = g.S.Source.rest c.args.source.now in
    let head : c.fill.new.self ≡ head_of rest = came-head _ _ _ c.clear.ensures (c.in_ok-fill.ensures.bytes told) in
    let ended : has_ended c.args.progress.now.place c.fill.new.self ≡ true = ap (has_ended c.args.progress.now.place) (sym c.as_slice.ensures) ∙ sym c.has_ended.ensures ∙ c.if-has_ended.true in
    ended-step c.args.limit c.args.progress.now c.fill.new.self rest head ended

pub returns-then-has_ended-clause-taken : goal.returns-then-has_ended-clause-taken
returns-then-has_ended-clause-taken g c told =
    let rest = g.S.Source.rest c.args.source.now in
    let head : c.fill.new.self ≡ head_of rest = came-head _ _ _ c.clear.ensures (c.in_ok-fill.ensures.bytes told) in
    let ended : has_ended c.args.progress.now.place c.fill.new.self ≡ true = ap (has_ended c.args.progress.now.place) (sym c.as_slice.ensures) ∙ sym c.has_ended.ensures ∙ c.if-has_ended.true in
    let none = ended-rest c.args.progress.now.place c.fill.new.self rest head ended in
    ended-taken c.args.progress.now.place _ _ none (ended-left c.args.progress.now.place rest _ none (came-rest _ _ _ c.clear.ensures (c.in_ok-fill.ensures.rest told)))

pub returns-then-has_ended-clause-end : goal.returns-then-has_ended-clause-end
returns-then-has_ended-clause-end g c told _ =
    let rest = g.S.Source.rest c.args.source.now in
    let head : c.fill.new.self ≡ head_of rest = came-head _ _ _ c.clear.ensures (c.in_ok-fill.ensures.bytes told) in
    let ended : has_ended c.args.progress.now.place c.fill.new.self ≡ true = ap (has_ended c.args.progress.now.place) (sym c.as_slice.ensures) ∙ sym c.has_ended.ensures ∙ c.if-has_ended.true in
    ended-left c.args.progress.now.place rest _ (ended-rest c.args.progress.now.place c.fill.new.self rest head ended) (came-rest _ _ _ c.clear.ensures (c.in_ok-fill.ensures.rest told))

pub returns-in_err-start-clause-step : goal.returns-in_err-start-clause-step
returns-in_err-start-clause-step g c told =
    let rest = g.S.Source.rest c.args.source.now in
    let head : c.fill.new.self ≡ head_of rest = came-head _ _ _ c.clear.ensures (c.in_ok-fill.ensures.bytes told) in
    let on : has_ended c.args.progress.now.place c.fill.new.self ≡ false = ap (has_ended c.args.progress.now.place) (sym c.as_slice.ensures) ∙ sym c.has_ended.ensures ∙ c.if-has_ended.false in
    let p = err_from_is_err_and c.from_residual-in_err-start.result c.from_residual-in_err-start.ensures.1 in
    let starts = starts-same c.args.limit c.args.progress.now _ _ (Err c.in_err-start.field-0.0) c.as_slice-2.ensures c.in_err-start.ensures.start in
    rw (p.1, p.2) (refused c.args.limit c.args.progress.now c.fill.new.self rest head on c.in_err-start.field-0.0 c.args.progress.now starts)

pub returns-in_err-fill-2-clause-fault : goal.returns-in_err-fill-2-clause-fault
returns-in_err-fill-2-clause-fault g c told fault =
    let rest = g.S.Source.rest c.args.source.now in
    let head : c.fill.new.self ≡ head_of rest = came-head _ _ _ c.clear.ensures (c.in_ok-fill.ensures.bytes told) in
    let on : has_ended c.args.progress.now.place c.fill.new.self ≡ false = ap (has_ended c.args.progress.now.place) (sym c.as_slice.ensures) ∙ sym c.has_ended.ensures ∙ c.if-has_ended.false in
    let all = head-rest c.fill.new.self rest _ head (came-rest _ _ _ c.clear.ensures (c.in_ok-fill.ensures.rest told)) in
    let starts = rw c.as_slice-2.ensures at c.in_ok-start.ensures.start in
    let is = started c.args.limit c.args.progress.now c.fill.new.self rest head on c.in_ok-start.start starts c.in_ok-start.ensures.within in
    let p = err_from_is_err_and c.from_residual-in_err-fill-2.result c.from_residual-in_err-fill-2.ensures.1 in
    fault_later c.args.limit c.args.progress.now c.fill.new.self c.fill-2.new.self rest _ _ _ _ c.in_err-fill-2.field-0.0 _ is all (c.in_err-fill-2.ensures.cut told) (rw p.2 at p.1) fault

pub returns-in-Ok-clause-step : goal.returns-in-Ok-clause-step
returns-in-Ok-clause-step g c told =
    let rest = g.S.Source.rest c.args.source.now in
    let head : c.fill.new.self ≡ head_of rest = came-head _ _ _ c.clear.ensures (c.in_ok-fill.ensures.bytes told) in
    let on : has_ended c.args.progress.now.place c.fill.new.self ≡ false = ap (has_ended c.args.progress.now.place) (sym c.as_slice.ensures) ∙ sym c.has_ended.ensures ∙ c.if-has_ended.false in
    let all = head-rest c.fill.new.self rest _ head (came-rest _ _ _ c.clear.ensures (c.in_ok-fill.ensures.rest told)) in
    let starts = rw c.as_slice-2.ensures at c.in_ok-start.ensures.start in
    let is = started c.args.limit c.args.progress.now c.fill.new.self rest head on c.in_ok-start.start starts c.in_ok-start.ensures.within in
    let block : c.as_slice-3.result.now ≡ take c.in_ok-start.start.size rest = c.as_slice-3.ensures ∙ c.in_ok-fill-2.ensures.bytes told ∙ ap (take c.in_ok-start.start.size) all in
    finished _ _ c.args.progress.now.place c.finish_block.new.progress c.in-Ok.advance
    (is ∙ ap (block_step c.args.progress.now c.in_ok-start.start.endian c.in_ok-start.start.size) (sym block)) c.in-Ok.ensures.step

pub returns-in-Ok-clause-taken : goal.returns-in-Ok-clause-taken
returns-in-Ok-clause-taken g c told =
    let rest = g.S.Source.rest c.args.source.now in
    let head : c.fill.new.self ≡ head_of rest = came-head _ _ _ c.clear.ensures (c.in_ok-fill.ensures.bytes told) in
    let all = head-rest c.fill.new.self rest _ head (came-rest _ _ _ c.clear.ensures (c.in_ok-fill.ensures.rest told)) in
    let block : c.as_slice-3.result.now ≡ take c.in_ok-start.start.size rest = c.as_slice-3.ensures ∙ c.in_ok-fill-2.ensures.bytes told ∙ ap (take c.in_ok-start.start.size) all in
    let left = c.in_ok-fill-2.ensures.rest told ∙ ap (drop c.in_ok-start.start.size) all in
    rw c.in-Ok.ensures.place
    (takes_block c.args.progress.now.place c.in_ok-start.start.size rest _ (enough c.in_ok-start.start.size _ rest block c.in-Ok.ensures.whole) left)

pub returns-in-Err-Broken-clause-step : goal.returns-in-Err-Broken-clause-step
returns-in-Err-Broken-clause-step g c told =
    let rest = g.S.Source.rest c.args.source.now in
    let head : c.fill.new.self ≡ head_of rest = came-head _ _ _ c.clear.ensures (c.in_ok-fill.ensures.bytes told) in
    let on : has_ended c.args.progress.now.place c.fill.new.self ≡ false = ap (has_ended c.args.progress.now.place) (sym c.as_slice.ensures) ∙ sym c.has_ended.ensures ∙ c.if-has_ended.false in
    let all = head-rest c.fill.new.self rest _ head (came-rest _ _ _ c.clear.ensures (c.in_ok-fill.ensures.rest told)) in
    let starts = rw c.as_slice-2.ensures at c.in_ok-start.ensures.start in
    let is = started c.args.limit c.args.progress.now c.fill.new.self rest head on c.in_ok-start.start starts c.in_ok-start.ensures.within in
    let block : c.as_slice-3.result.now ≡ take c.in_ok-start.start.size rest = c.as_slice-3.ensures ∙ c.in_ok-fill-2.ensures.bytes told ∙ ap (take c.in_ok-start.start.size) all in
    let broken = rw c.in-Err-Broken.field-0-is at c.in-Err-Broken.ensures.step in
    is ∙ ap (block_step c.args.progress.now c.in_ok-start.start.endian c.in_ok-start.start.size) (sym block) ∙ broken
