use Rattle.std.proofs.Common.{◌≡◌, ◌<◌, length}
use Rattle.std.specs.List.{filter, range_with_len, All}
use Rattle.elf_objects.specs.Object.{sections}
use Rattle.object_load.specs.Sections.{holds_constants}
use Rattle.object_load.proofs.sections.constant_sections.Given as goal

abbrev pub invariant-loop-number : goal.invariant-loop-number
invariant-loop-number l = record {
  numbers : l.numbers ≡ filter (holds_constants l.object) (range_with_len 0 l.number);
  known : All (λ number. number < length (sections l.object)) l.numbers;
}
