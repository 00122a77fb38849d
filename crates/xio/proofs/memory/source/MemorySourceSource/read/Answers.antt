use Rattle.xio.proofs.PiecesLemmas.{reads_piece}
use Rattle.xio.proofs.memory.source.MemorySourceSource.read.Goals as goal

pub returns-in-Ok-clause-bytes : goal.returns-in-Ok-clause-bytes
returns-in-Ok-clause-bytes c =
    reads_piece _ c.in-Ok.piece.now _ c.args.self.now.place _ _ (rw c.as_slice.ensures at c.in-Ok.ensures.front)
    c.fill-count.ensures.count c.fill-count.ensures.filled c.fill-count.auto.buffer
