-- What holds of a file where the rules of the sections hold.
use Rattle.std.proofs.Common.{◌≡◌, ℕ, ◌+◌, ◌<◌, ◌≤◌, true, false, not, ◌||◌, ◌==◌, List, None, length, ap, subst, sym, ◌∙◌, arith}
use Rattle.std.proofs.lemmas.Bool.Decides.{nat_tests}
use Rattle.elf_objects.specs.declared.section.Section.{Section}
use Rattle.elf_objects.specs.Breaks.{first_place}
use Rattle.elf_objects.specs.Section.{section, section_count, has_bytes, is_past_end, section_past_end}
use Rattle.elf_objects.proofs.Headers.{header_passes}

within : (file : List ℕ) (k : ℕ) → is_past_end file k ≡ false → has_bytes (section file k) ≡ true → (section file k).offset + (section file k).size ≤ length file
unfolding is_past_end
within file k inside bytes = grind (arith, nat_tests)

pub content_fits : (file : List ℕ) (k : ℕ) (s : Section) → first_place (section_past_end file) ≡ None → k < section_count file → s ≡ section file k → has_bytes s ≡ true → s.offset + s.size ≤ length file
content_fits file k s none known is bytes =
    let fits = within file k (header_passes file (is_past_end file) k none known) (ap has_bytes (sym is) ∙ bytes) in
    subst (λ (t : Section). t.offset + t.size ≤ length file) (sym is) fits

-- the same of a REL
pub rel_fits : (file : List ℕ) (k : ℕ) (s : Section) → first_place (section_past_end file) ≡ None → k < section_count file → s ≡ section file k → s.kind ≡ 9 → s.offset + s.size ≤ length file
rel_fits file k s none known is rel = content_fits file k s none known is (ap (λ n. not (n == 0 || n == 8)) rel)
