use Rattle.std.proofs.Common.{◌≡◌, ◌+◌, drop, length}
use Rattle.pcapng_text.specs.Parts.{joined}
use Rattle.pcapng_text.proofs.pieces.pieces_size.Given as goal

-- the size so far, and what is left
abbrev pub invariant-loop-piece : goal.invariant-loop-piece
invariant-loop-piece l = l.size + length (joined (drop l.piece-index l.pieces)) ≡ length (joined l.pieces)
