use Rattle.std.proofs.Common.{◌≡◌, ◌+◌, drop, length}
use Rattle.pcapng_text.specs.Parts.{parts_bytes}
use Rattle.pcapng_text.proofs.parts.parts_size.Given as goal

-- the size so far, and what is left
abbrev pub invariant-loop-part : goal.invariant-loop-part
invariant-loop-part l = l.size + length (parts_bytes (drop l.part-index l.parts)) ≡ length (parts_bytes l.parts)
