use Rattle.xdp_tool.proofs.FilesRead.{reads-part, reads-wanting, reads-whole}
use Rattle.xdp_tool.specs.declared.ending.Ending.TheVariants.{Fault, OutOfMemory, Limit}
use Rattle.xdp_tool.specs.declared.ending.LimitName.TheVariants as limit
use Rattle.xdp_tool.proofs.objects.load_object.Goals as goal

pub returns-in-Ok-clause-reads : goal.returns-in-Ok-clause-reads
returns-in-Ok-clause-reads g c = λ tells.
    rw c.text_of.ensures at (reads-whole (g.F.Files.handles c.args.files.now) (g.F.Files.told c.args.files.now) (g.F.Files.told c.read_file.new.files) c.text_of.result.now c.add_object.result (c.in-Ok.ensures.asked tells))

pub returns-in-Err-ReadFault-clause-reads : goal.returns-in-Err-ReadFault-clause-reads
returns-in-Err-ReadFault-clause-reads g c = λ tells.
    let asks = rw c.in-Err-ReadFault.field-0-is at (c.in-Err-ReadFault.ensures.asked tells) in
    rw c.text_of.ensures at (reads-part {A = Unit {0}} (g.F.Files.handles c.args.files.now) (g.F.Files.told c.args.files.now) (g.F.Files.told c.read_file.new.files) c.text_of.result.now asks.0 Fault asks.1)

pub returns-in-Err-TooLarge-clause-reads : goal.returns-in-Err-TooLarge-clause-reads
returns-in-Err-TooLarge-clause-reads g c = λ tells.
    let asks = rw c.in-Err-TooLarge.field-0-is at (c.in-Err-TooLarge.ensures.asked tells) in
    rw c.text_of.ensures at (reads-part {A = Unit {0}} (g.F.Files.handles c.args.files.now) (g.F.Files.told c.args.files.now) (g.F.Files.told c.read_file.new.files) c.text_of.result.now asks.0 (Limit limit.Object) asks.1)

pub returns-clause-reads : goal.returns-clause-reads
returns-clause-reads g c = λ tells.
    rw c.text_of.ensures at (reads-wanting {A = Unit {0}} (g.F.Files.handles c.args.files.now) (g.F.Files.told c.args.files.now) (g.F.Files.told c.read_file.new.files) c.text_of.result.now OutOfMemory (rw c.in-Err-OutOfMemory.field-0-is at (c.in-Err-OutOfMemory.ensures.asked tells)))
