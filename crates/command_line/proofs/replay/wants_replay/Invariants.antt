use Rattle.std.proofs.Common.{◌≡◌, drop}
use Rattle.command_line.specs.Replay.{wants_replay}
use Rattle.command_line.specs.Words.{texts_of}
use Rattle.command_line.proofs.replay.wants_replay.Given as goal

-- the words that are left decide
abbrev pub invariant-loop-word : goal.invariant-loop-word
invariant-loop-word l = wants_replay (texts_of (drop l.word-index l.words)) ≡ wants_replay (texts_of l.words)
