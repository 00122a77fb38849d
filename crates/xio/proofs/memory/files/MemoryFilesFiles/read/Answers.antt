use Rattle.xio.proofs.PiecesLemmas.{reads_further}
use Rattle.xio.proofs.memory.files.MemoryFilesFiles.read.Goals as goal

pub returns-in-Ok-clause-bytes : goal.returns-in-Ok-clause-bytes
returns-in-Ok-clause-bytes c =
    reads_further _ c.args.self.now.numbers.entries.items _ c.args.self.now.numbers.asks.items _ c.args.file _ _ c.in-Ok.piece.now _
    (rw (c.place.ensures, c.name.ensures) at c.in-Ok.ensures.front) c.fill-count.ensures.count c.fill-count.ensures.filled c.fill-count.auto.buffer
    c.advance.ensures.places c.advance.ensures.same_entries
