use Rattle.std.proofs.Common.{◌≡◌, refl, length, arith}
use Rattle.std.proofs.lemmas.Result.{err_from_is_err_and}
use Rattle.xio.proofs.Taken.{prefix_taken, limit-rest, takes_more, takes_same}
use Rattle.xio.proofs.reading.read_all.Goals as goal

pub returns-then-taken-room-clause-bytes : goal.returns-then-taken-room-clause-bytes
returns-then-taken-room-clause-bytes g c told =
    let p = c.loop-taken.invariant.progress in
    (refl, limit-rest _ _ p c.if-taken-room.true c.in_ok-taken.ensures.within told (c.in_ok-taken.ensures.bytes told).0, prefix_taken p told)

pub returns-in_err-append-clause-bytes : goal.returns-in_err-append-clause-bytes
returns-in_err-append-clause-bytes g c told =
    let p = err_from_is_err_and c.from_residual-in_err-append.result c.from_residual-in_err-append.ensures.1 in
    rw (p.1, p.2, c.in_err-append.ensures.err) (prefix_taken c.loop-taken.invariant.progress told)

pub returns-in_err-taken-clause-taken : goal.returns-in_err-taken-clause-taken
returns-in_err-taken-clause-taken g c told = takes_same 4096 _ c.loop-taken.invariant.progress told (c.in_err-taken.ensures.bytes told)

pub returns-then-taken-eq0-clause-taken : goal.returns-then-taken-eq0-clause-taken
returns-then-taken-eq0-clause-taken g c told =
    let sized : length c.read.new.buffer ≡ 4096 = omega arith in
    takes_more 4096 _ _ c.loop-taken.invariant.progress c.in_ok-taken.ensures.within sized told (c.in_ok-taken.ensures.bytes told).0

pub returns-then-taken-room-clause-taken : goal.returns-then-taken-room-clause-taken
returns-then-taken-room-clause-taken g c told =
    let sized : length c.read.new.buffer ≡ 4096 = omega arith in
    takes_more 4096 _ _ c.loop-taken.invariant.progress c.in_ok-taken.ensures.within sized told (c.in_ok-taken.ensures.bytes told).0

pub returns-in_err-append-clause-taken : goal.returns-in_err-append-clause-taken
returns-in_err-append-clause-taken g c told =
    let sized : length c.read.new.buffer ≡ 4096 = omega arith in
    rw c.in_err-append.ensures.err (takes_more 4096 _ _ c.loop-taken.invariant.progress c.in_ok-taken.ensures.within sized told (c.in_ok-taken.ensures.bytes told).0)
