use Rattle.std.proofs.Common.{◌≡◌, ◌<◌, ◌≤◌, length, get_or, arith}
use Rattle.std.proofs.lemmas.List.{get_or_read}
use Rattle.map_store.proofs.Trees.{root_found, root_none}
use Rattle.map_store.proofs.occupancy.Occupancy.least_empty.Goals as goal

pub returns-then-place-len : goal.returns-then-place-len
returns-then-place-len c =
    let some : 1 < length c.self.inside.least.items = omega (arith, c.self.invariant.size, c.self.invariant.some) in
    let root : c.index.result.now ≡ get_or c.self.inside.least.items 1 0 = get_or_read c.self.inside.least.items 1 c.index.result.now some c.index.ensures 0 in
    let below : get_or c.self.inside.least.items 1 0 < length c.self.inside.taken.items = rw (root, c.len.ensures, c.self.inside.taken.ok.0) at c.if-place-len.true in
    rw (← c.self.view_is, root) (root_found (length c.self.inside.taken.items) c.self.inside.taken.items c.self.inside.least.items c.self.invariant below)

pub returns-else-place-len : goal.returns-else-place-len
returns-else-place-len c =
    let some : 1 < length c.self.inside.least.items = omega (arith, c.self.invariant.size, c.self.invariant.some) in
    let root : c.index.result.now ≡ get_or c.self.inside.least.items 1 0 = get_or_read c.self.inside.least.items 1 c.index.result.now some c.index.ensures 0 in
    let above : length c.self.inside.taken.items ≤ get_or c.self.inside.least.items 1 0 = rw (root, c.len.ensures, c.self.inside.taken.ok.0) at c.if-place-len.false in
    rw (← c.self.view_is) (root_none (length c.self.inside.taken.items) c.self.inside.taken.items c.self.inside.least.items c.self.invariant above)
