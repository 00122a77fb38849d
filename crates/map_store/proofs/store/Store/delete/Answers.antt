use Rattle.map_store.proofs.Regions.{map_read}
use Rattle.map_store.proofs.Shapes.{shapes-with}
use Rattle.map_store.proofs.store.Store.delete.Goals as goal

pub returns-clause-shapes : goal.returns-clause-shapes
returns-clause-shapes c =
    rw c.self.view_is (shapes-with c.args.self.now c.args.map c.index_mut.result.now c.delete.new.self
    (map_read c.args.self.now c.args.map c.index_mut.result.now c.requires.map (rw c.self.view_is at c.index_mut.ensures.value)) c.delete.ensures.shape)
