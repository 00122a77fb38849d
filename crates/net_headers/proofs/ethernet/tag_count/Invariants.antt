use Rattle.std.proofs.Common.{◌-◌, ◌≡◌, ◌+◌, ◌≤◌, length, ℕ, ◌<◌, true}
use Rattle.net_headers.specs.Ethernet.{has_tag, type_place}
use Rattle.net_headers.proofs.ethernet.tag_count.Given as goal

abbrev pub invariant-loop-tags : goal.invariant-loop-tags
invariant-loop-tags l = (l.tags ≤ 2) × (type_place l.tags + 2 ≤ length l.frame) × ((k : ℕ) → k < l.tags → has_tag l.frame k ≡ true)

abbrev pub decreases-loop-tags : goal.decreases-loop-tags
decreases-loop-tags l = length l.frame - type_place l.tags
