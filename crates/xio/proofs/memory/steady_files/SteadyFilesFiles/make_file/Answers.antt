use Rattle.std.proofs.Common.{rules}
use Rattle.xio.proofs.ShelfLemmas.{there-placed}
use Rattle.xio.proofs.memory.steady_files.SteadyFilesFiles.make_file.Goals as goal

pub returns-clause-there : goal.returns-clause-there
returns-clause-there c = there-placed c.args.self.now.shelf.files.items c.place.new.self.files.items c.args.name.now c.in_ok-file.file (search rules)
