use Rattle.std.proofs.Common.{Fits, w8, get_or, arith}
use Rattle.map_store.proofs.Indices.{index_found, index_absent}
use Rattle.map_store.proofs.slots.index_of.Goals as goal

pub returns-then-place-count : goal.returns-then-place-count
returns-then-place-count c = index_found c.args.key.now c.args.count c.number-place.result c.requires.key (λ i. let fits : Fits w8 (get_or c.args.key.now i 0) = c.type_inv.key i in omega arith) c.requires.count c.number-place.ensures c.if-place-count.true

pub returns-else-place-count : goal.returns-else-place-count
returns-else-place-count c = index_absent c.args.key.now c.args.count c.number-place.result c.requires.count c.number-place.ensures c.if-place-count.false
