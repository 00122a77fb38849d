-- Two beginnings of one history, by their lengths.
use Rattle.std.proofs.Common.{◌≡◌, suc, ◌<◌, ◌≤◌, length, sym, arith}
use mathlib.Core.List.{IsPrefix}
use Rattle.dispatch_plane.specs.History.{committed, shown}
use Rattle.dispatch_plane.specs.Trace.{Trace, SameHistory}
use Rattle.dispatch_plane.proofs.Histories.{shows_committed}
use Rattle.dispatch_plane.proofs.Prefixes.{starts_longer, starts_whole}

pub begins_other : (first second : Trace) → SameHistory first second → length first.log < length second.log → IsPrefix first.log second.log
begins_other first second same less = starts_longer first.log second.log same.whole same.begins same.begins_too (omega arith)

pub other_begins : (first second : Trace) → SameHistory first second → length second.log ≤ length first.log → IsPrefix second.log first.log
other_begins first second same le = starts_longer second.log first.log same.whole same.begins_too same.begins le

pub same_front : (first second : Trace) → SameHistory first second → second.plane ≡ first.plane → length first.log ≡ length second.log → second ≡ first
same_front first second same plane long =
    let log : second.log ≡ first.log = starts_whole second.log first.log (other_begins first second same (omega arith)) (omega arith) in
    λ i. record { plane = plane i; log = log i }

pub reaches_other : (first second : Trace) → SameHistory first second → length second.log ≤ suc (length first.log) → IsPrefix (committed second.log) (shown first.log)
reaches_other first second same le = shows_committed first.log second.log same.whole same.begins same.begins_too le
