use Rattle.std.proofs.Common.{◌+◌, ◌≤◌, ℕ, List, length, subst, sym}
use Rattle.elf_objects.proofs.Contents.{content_fits}
use Rattle.elf_objects.proofs.Soundness.{sound}
use Rattle.elf_objects.proofs.object.Object.content.Goals as goal

pub content_of-requires : goal.content_of-requires
content_of-requires c = λ bytes.
    let file = c.args.self.now in
    let s = c.section.result in
    subst (λ (f : List ℕ). s.offset + s.size ≤ length f) (sym c.self.view_is)
    (content_fits file c.args.section s (sound file c.section.ensures.unbroken).contents.contents c.section.ensures.known c.section.ensures.section bytes)
