use Rattle.std.proofs.Common.{◌≡◌, ◌∷◌, [], ap, ◌∙◌, sym}
use Rattle.xdp_tool.specs.Headline.{objects_named}
use Rattle.xdp_tool.specs.Outcome.{script_at}
use Rattle.xdp_tool.proofs.FilesRead.{reads-both, reads-failed, reads-front}
use Rattle.xdp_tool.proofs.Preparing.{clash-early, clash-ended, read-early, read-ended, script-in-is}
use Rattle.xdp_tool.proofs.prepare.prepare.Goals as goal

pub returns-in-Err-clause-only : goal.returns-in-Err-clause-only
returns-in-Err-clause-only g c = λ tells script is.
    read-early _ _ _ c.in-Err.ending script (c.in-Err.ensures.script tells) is

pub returns-in-Err-clause-reads : goal.returns-in-Err-clause-reads
returns-in-Err-clause-reads g c = λ tells.
    reads-front _ _ (c.args.name.now ∷ []) (objects_named (script_at ((g.F.Files.told c.args.files.now).content c.args.name.now))) c.in-Err.ending (c.in-Err.ensures.reads tells)

pub returns-in-Err-without_clash-clause-only : goal.returns-in-Err-without_clash-clause-only
returns-in-Err-without_clash-clause-only g c = λ tells script is.
    clash-early _ _ _ c.in-Err-without_clash.ending c.in-Ok.script script (c.in-Ok.ensures.script tells) c.in-Err-without_clash.ensures.err is

pub returns-in-Err-without_clash-clause-reads : goal.returns-in-Err-without_clash-clause-reads
returns-in-Err-without_clash-clause-reads g c = λ tells.
    reads-front {B = Unit {0}} _ _ (c.args.name.now ∷ []) (objects_named (script_at ((g.F.Files.told c.args.files.now).content c.args.name.now))) c.in-Err-without_clash.ending
    (reads-failed _ _ _ c.in-Ok.script c.in-Err-without_clash.ending (c.in-Ok.ensures.reads tells))

pub returns-in-Ok-without_clash-clause-loaded : goal.returns-in-Ok-without_clash-clause-loaded
returns-in-Ok-without_clash-clause-loaded g c = λ tells.
    rw (script-in-is _ _ _ c.in-Ok.script (c.in-Ok.ensures.script tells) c.in-Ok-without_clash.ensures.ok)
    (rw (c.in-Ok.ensures.reads tells).unmade.content at (c.load_objects.ensures.loaded tells))

pub returns-in-Ok-without_clash-clause-only : goal.returns-in-Ok-without_clash-clause-only
returns-in-Ok-without_clash-clause-only g c = λ tells script is.
    (rw (c.in-Ok.ensures.reads tells).unmade.content at (c.load_objects.ensures.only tells)) script
    (rw (script-in-is _ _ _ c.in-Ok.script (c.in-Ok.ensures.script tells) c.in-Ok-without_clash.ensures.ok) at is)

pub returns-in-Ok-without_clash-clause-reads : goal.returns-in-Ok-without_clash-clause-reads
returns-in-Ok-without_clash-clause-reads g c = λ tells.
    rw (c.in-Ok.ensures.script tells)
    (reads-both _ _ _ (c.args.name.now ∷ []) c.in-Ok.script.objects c.in-Ok.script c.load_objects.result (c.in-Ok.ensures.reads tells) (c.load_objects.ensures.reads tells))

pub returns-in-Err-clause-ended : goal.returns-in-Err-clause-ended
returns-in-Err-clause-ended g c = λ tells. read-ended _ _ _ c.in-Err.ending (c.in-Err.ensures.script tells)

pub returns-in-Err-without_clash-clause-ended : goal.returns-in-Err-without_clash-clause-ended
returns-in-Err-without_clash-clause-ended g c = λ tells.
    clash-ended _ _ _ c.in-Err-without_clash.ending c.in-Ok.script (c.in-Ok.ensures.script tells) c.in-Err-without_clash.ensures.err

pub returns-in-Ok-without_clash-clause-ended : goal.returns-in-Ok-without_clash-clause-ended
returns-in-Ok-without_clash-clause-ended g c = λ tells.
    rw (script-in-is _ _ _ c.in-Ok.script (c.in-Ok.ensures.script tells) c.in-Ok-without_clash.ensures.ok)
    (rw (c.in-Ok.ensures.reads tells).unmade.content at (c.load_objects.ensures.ended tells))
